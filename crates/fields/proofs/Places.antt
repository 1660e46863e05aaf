-- The field at each place of the two files, part by part as the code goes through them.
use mathlib.Core.Path.{◌≡◌, refl, ◌∙◌, ap}
use mathlib.Core.List.{List, [], ◌∷◌, ◌++◌}
use Prim.Native.Nat.{ℕ, zero, suc, ◌+◌, ◌*◌, ◌-◌, ◌%◌, ◌<◌, ◌≤◌}
use native.Mathlib.Nat.{mod-lt}
use native.Mathlib.Omega.{arith}
use lib.ListN.{length, get_or, replicate, length-append, length-replicate}
use Rattle.std.proofs.lemmas.List.{append_assoc, get_or_append_left, get_or-append_right, get_or-replicate}
use Rattle.std.proofs.Math.Seq.{get_or-append_seam}
use Rattle.arith.specs.Sums.{Each, upto}
use Rattle.arith.proofs.Lists.{each_join, each-across, each-any, length-upto}
use Rattle.market.specs.declared.Version.{Version}
use Rattle.market.specs.Case.{curves}
use Rattle.market.specs.UpperBounds.{services}
use Rattle.market.specs.Rows.{limits}
use Rattle.market.specs.Numbers.{Field, u8, u32, i16, i32, times, head_fields, resource_fields, flowgate_fields, case_fields, zone_fields, curve_fields, entry_fields, certificate_fields}
use Rattle.fields.specs.Layout.{head_numbers, zone_numbers, resource_numbers, certificate_head_numbers, zones_end, resources_end}
use Rattle.market.proofs.FileSizes.{times_length, case_count}
use Rattle.fields.proofs.Entries.{entry_repeated, entry_each, entry_beside}

-- ---- the same fields n times
times_entry : (n : ℕ) (fs : List Field) (k : ℕ) → k < n * length fs → get_or (times n fs) k u8 ≡ get_or fs (k % length fs) u8
unfolding times
times_entry n fs k h = entry_repeated u8 fs (upto n) k (rw (length-upto n) h)

times_each : (P : Field → Type 0) (n : ℕ) (fs : List Field) → Each P fs → Each P (times n fs)
unfolding times
times_each P n fs e = each-across P (λ i. fs) (upto n) (each-any (λ i. Each P fs) (upto n) (λ i. e))

same_each : (n : ℕ) (x : Field) → Each (λ y. y ≡ x) (replicate n x)
same_each zero x = tt
same_each (suc n) x = (refl, same_each n x)

-- a flowgate has a limit, and a shift factor for each resource
flowgate_long : (version : Version) (r : ℕ) → length (flowgate_fields version r) ≡ r + 1
flowgate_long version r = omega (arith, length-replicate r i16)

factor_entry : (version : Version) (r j : ℕ) → 0 < j → j < r + 1 → get_or (flowgate_fields version r) j u8 ≡ i16
factor_entry version r zero a b = absurd (omega arith)
factor_entry version r (suc j) a b = entry_each u8 (λ x. x ≡ i16) (replicate r i16) (same_each r i16) j (omega (arith, length-replicate r i16))

-- ---- a case: its head, then zones, resources and flowgates
pub case_long : (version : Version) (r z f : ℕ) → length (case_fields version r z f) ≡ resources_end version r z + f * (r + 1)
case_long version r z f = omega (arith, case_count version r z f, ap (λ (j : ℕ). f * j) (flowgate_long version r))

module _ (version : Version) (r z f k : ℕ) where
  abbrev zone_part : List Field
  zone_part = times z zone_fields

  abbrev resource_part : List Field
  resource_part = times r (resource_fields version)

  abbrev flowgate_part : List Field
  flowgate_part = times f (flowgate_fields version r)

  zones_long : length zone_part ≡ zone_numbers * z
  zones_long = omega (arith, times_length z zone_fields)

  resources_long : length resource_part ≡ r * resource_numbers version
  resources_long = times_length r (resource_fields version)

  pub case_head : k < head_numbers version → get_or (case_fields version r z f) k u8 ≡ get_or (head_fields version) k u8
  unfolding case_fields
  case_head h = get_or_append_left (head_fields version) (zone_part ++ (resource_part ++ flowgate_part)) u8 k h

  past_head : head_numbers version ≤ k → get_or (case_fields version r z f) k u8 ≡ get_or (zone_part ++ (resource_part ++ flowgate_part)) (k - head_numbers version) u8
  unfolding case_fields
  past_head h = get_or-append_right (head_fields version) (zone_part ++ (resource_part ++ flowgate_part)) (head_numbers version) k u8 refl h

  past_zones : zones_end version z ≤ k → get_or (case_fields version r z f) k u8 ≡ get_or (resource_part ++ flowgate_part) (k - zones_end version z) u8
  past_zones h =
      let place : k - head_numbers version - zone_numbers * z ≡ k - zones_end version z = omega arith in
      past_head (omega arith)
      ∙ get_or-append_right zone_part (resource_part ++ flowgate_part) (zone_numbers * z) (k - head_numbers version) u8 zones_long (omega arith)
      ∙ ap (λ (j : ℕ). get_or (resource_part ++ flowgate_part) j u8) place

  past_resources : resources_end version r z ≤ k → get_or (case_fields version r z f) k u8 ≡ get_or flowgate_part (k - resources_end version r z) u8
  past_resources h =
      let place : k - zones_end version z - r * resource_numbers version ≡ k - resources_end version r z = omega arith in
      past_zones (omega arith)
      ∙ get_or-append_right resource_part flowgate_part (r * resource_numbers version) (k - zones_end version z) u8 resources_long (omega arith)
      ∙ ap (λ (j : ℕ). get_or flowgate_part j u8) place

  pub case_zone : head_numbers version ≤ k → k < zones_end version z → get_or (case_fields version r z f) k u8 ≡ u32
  case_zone h l =
      let each = times_each (λ x. x ≡ u32) z zone_fields (same_each zone_numbers u32) in
      past_head h
      ∙ get_or_append_left zone_part (resource_part ++ flowgate_part) u8 (k - head_numbers version) (omega (arith, zones_long))
      ∙ entry_each u8 (λ x. x ≡ u32) zone_part each (k - head_numbers version) (omega (arith, zones_long))

  pub case_resource : zones_end version z ≤ k → k < resources_end version r z → get_or (case_fields version r z f) k u8 ≡ get_or (resource_fields version) ((k - zones_end version z) % resource_numbers version) u8
  case_resource h l =
      past_zones h
      ∙ get_or_append_left resource_part flowgate_part u8 (k - zones_end version z) (omega (arith, resources_long))
      ∙ times_entry r (resource_fields version) (k - zones_end version z) (omega arith)

  -- of a flowgate the limit, then the shift factors
  module _ (h : resources_end version r z ≤ k) (l : k < length (case_fields version r z f)) where
    of_flowgate : get_or (case_fields version r z f) k u8 ≡ get_or (flowgate_fields version r) ((k - resources_end version r z) % (r + 1)) u8
    of_flowgate =
        let m = k - resources_end version r z in
        past_resources h
        ∙ times_entry f (flowgate_fields version r) m (omega (arith, case_count version r z f))
        ∙ ap (λ (j : ℕ). get_or (flowgate_fields version r) (m % j) u8) (flowgate_long version r)

    pub case_limit : (k - resources_end version r z) % (r + 1) ≡ 0 → get_or (case_fields version r z f) k u8 ≡ i32
    case_limit e = of_flowgate ∙ ap (λ (j : ℕ). get_or (flowgate_fields version r) j u8) e

    pub case_factor : 0 < (k - resources_end version r z) % (r + 1) → get_or (case_fields version r z f) k u8 ≡ i16
    case_factor p = of_flowgate ∙ factor_entry version r ((k - resources_end version r z) % (r + 1)) p (mod-lt (k - resources_end version r z) (omega arith))

pub ruleset case_places = (case_head, case_zone, case_resource, case_limit, case_factor)

-- ---- a certificate: counts, then u32 on both sides of the price of row 1
abbrev is_u32 : Field → Type 0
is_u32 x = x ≡ u32

module _ (version : Version) where
  curves_long : length (curve_fields version) ≡ length (curves version)
  curves_long = length-replicate (length (curves version)) u32

  pub certificate_head_long : certificate_head_numbers version ≡ 4 + 2 * length (curves version)
  certificate_head_long = omega (arith, length-append (curve_fields version) (i32 ∷ curve_fields version), curves_long)

  module _ (r z f k : ℕ) where
    abbrev behind_zones : List Field
    behind_zones = times f (u32 ∷ []) ++ times r (entry_fields version)

    -- behind the price of row 1
    abbrev behind : List Field
    behind = curve_fields version ++ (times z zone_fields ++ behind_zones)

    behind_each : Each is_u32 behind
    behind_each =
        each_join is_u32 (curve_fields version) (times z zone_fields ++ behind_zones) (same_each (length (curves version)) u32)
        (each_join is_u32 (times z zone_fields) behind_zones (times_each is_u32 z zone_fields (same_each zone_numbers u32))
        (each_join is_u32 (times f (u32 ∷ [])) (times r (entry_fields version)) (times_each is_u32 f (u32 ∷ []) (refl, tt)) (times_each is_u32 r (entry_fields version) (same_each (length (services version) + length (limits version)) u32))))

    past_counts : certificate_fields version r z f ≡ replicate 3 u8 ++ (curve_fields version ++ (i32 ∷ behind))
    unfolding certificate_fields
    past_counts = ap (λ (fs : List Field). u8 ∷ u8 ∷ u8 ∷ fs) (append_assoc (curve_fields version) (i32 ∷ curve_fields version) (times z zone_fields ++ behind_zones))

    pub certificate_counts : k < 3 → get_or (certificate_fields version r z f) k u8 ≡ u8
    certificate_counts h = rw past_counts (get_or_append_left (replicate 3 u8) (curve_fields version ++ (i32 ∷ behind)) u8 k h ∙ get_or-replicate 3 k u8 u8 h)

    from_curves : 3 ≤ k → get_or (certificate_fields version r z f) k u8 ≡ get_or (curve_fields version ++ (i32 ∷ behind)) (k - 3) u8
    from_curves h = rw past_counts (get_or-append_right (replicate 3 u8) (curve_fields version ++ (i32 ∷ behind)) 3 k u8 refl h)

    pub certificate_balance : k ≡ 3 + length (curves version) → get_or (certificate_fields version r z f) k u8 ≡ i32
    certificate_balance e =
        let place : k - 3 ≡ length (curve_fields version) = omega (arith, curves_long) in
        from_curves (omega arith) ∙ ap (λ (j : ℕ). get_or (curve_fields version ++ (i32 ∷ behind)) j u8) place ∙ get_or-append_seam (curve_fields version) i32 behind u8

    pub certificate_others : 3 ≤ k → (k ≡ 3 + length (curves version) → ⊥) → k < length (certificate_fields version r z f) → get_or (certificate_fields version r z f) k u8 ≡ u32
    certificate_others h other l =
        let within : k - 3 < length (curve_fields version ++ (i32 ∷ behind)) = omega (arith, ap (λ (fs : List Field). length fs) past_counts) in
        from_curves h ∙ entry_beside u8 is_u32 i32 (curve_fields version) behind (same_each (length (curves version)) u32) behind_each (k - 3) within (λ e. other (omega (arith, curves_long)))

pub ruleset certificate_places = (certificate_counts, certificate_balance, certificate_others)
