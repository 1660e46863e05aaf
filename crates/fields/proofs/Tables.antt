-- A table of the code has, at each place, the field of the list that it writes out.
use mathlib.Core.Path.{◌≡◌, refl, sym, ◌∙◌, ap}
use mathlib.Core.List.{List, ◌∷◌, map}
use Prim.Native.Nat.{ℕ, ◌+◌, ◌*◌, ◌-◌, ◌<◌, ◌≤◌}
use native.Mathlib.Omega.{arith}
use lib.ListN.{length, get_or, get_or-map, replicate, length-replicate}
use Rattle.std.proofs.lemmas.List.{get_or_append_left, get_or-append_right, get_or-replicate}
use Rattle.arith.specs.Sums.{across, upto}
use Rattle.market.specs.declared.Version.{Version}
use Rattle.market.specs.declared.Version.TheVariants.{First}
use Rattle.market.specs.Case.{curves, curve_steps}
use Rattle.market.specs.Numbers.{Field, u8, u16, u32, i16, i32, times, head_fields, resource_fields}
use Rattle.fields.specs.Layout.{field_of, head_numbers, resource_numbers}
use Rattle.fields.specs.declared.Field as D
use Rattle.fields.specs.declared.Field.TheVariants as K

-- the field as the code writes it
abbrev pub coded : Field → D.Field
coded u8 = K.U8
coded u16 = K.U16
coded u32 = K.U32
coded i16 = K.I16
coded i32 = K.I32

coded_back : (f : Field) → field_of (coded f) ≡ f
coded_back u8 = refl
coded_back u16 = refl
coded_back u32 = refl
coded_back i16 = refl
coded_back i32 = refl

pub table_entry : (fs : List Field) (k : ℕ) → field_of (get_or (map coded fs) k K.U8) ≡ get_or fs k u8
table_entry fs k = ap field_of (get_or-map coded fs k u8) ∙ coded_back (get_or fs k u8)

-- ---- a case's head: a table, then u32
abbrev pub head_table : List Field
head_table = u8 ∷ u8 ∷ u8 ∷ u32 ∷ replicate 9 u16

module _ (version : Version) where
  -- requirements, and widths and prices of the curves' steps
  abbrev later : ℕ
  later = 3 + length (curves version) * (curve_steps * 2)

  pub head_long : head_numbers version ≡ 13 + later
  head_long = omega (arith, length-replicate later u32)

  pub head_entry : (k : ℕ) → k < 13 → field_of (get_or (map coded head_table) k K.U8) ≡ get_or (head_fields version) k u8
  head_entry k h = table_entry head_table k ∙ sym (get_or_append_left head_table (replicate later u32) u8 k h)

  pub head_later : (k : ℕ) → 13 ≤ k → k < head_numbers version → u32 ≡ get_or (head_fields version) k u8
  head_later k h l = sym (get_or-append_right head_table (replicate later u32) 13 k u8 refl h ∙ get_or-replicate later (k - 13) u32 u8 (omega (arith, length-replicate later u32)))

-- ---- a resource's table, by version
pub resource_long : (version : Version) → resource_numbers version ≡ 43
unfolding times across upto
resource_long First = refl

pub resource_entry : (version : Version) (k : ℕ) → field_of (get_or (map coded (resource_fields First)) k K.U8) ≡ get_or (resource_fields version) k u8
resource_entry First k = table_entry (resource_fields First) k
