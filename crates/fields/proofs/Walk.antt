-- A list of fields passed one by one: how wide the first k are, and the numbers that they stand for.
use mathlib.Core.Path.{◌≡◌, ◌∙◌, ap}
use mathlib.Core.List.{List, [], ◌∷◌, ◌++◌}
use Prim.Native.Nat.{ℕ, ◌+◌, ◌<◌, ◌≤◌}
use native.Mathlib.Nat.{add_assoc, add-zero}
use native.Mathlib.Omega.{arith}
use lib.ListN.{length, get_or, take, drop, take-append-drop}
use Rattle.std.proofs.lemmas.List.{take_more}
use Rattle.arith.specs.Sums.{total_of}
use Rattle.arith.proofs.NaturalSums.{total-append}
use Rattle.market.specs.Numbers.{Field, u8, field_width, field_at, numbers_at}

-- the numbers of two lists of fields, one behind the other
numbers_append : (fs gs : List Field) (b : List ℕ) (p : ℕ) → numbers_at (fs ++ gs) b p ≡ numbers_at fs b p ++ numbers_at gs b (p + total_of field_width fs)
unfolding numbers_at total_of
numbers_append [] gs b p = rw (add-zero p)
numbers_append (f ∷ fs) gs b p = rw (numbers_append fs gs b (p + field_width f), add_assoc p (field_width f) (total_of field_width fs))

module _ (fs : List Field) (k : ℕ) (h : k < length fs) where
  pub width_next : total_of field_width (take (k + 1) fs) ≡ total_of field_width (take k fs) + field_width (get_or fs k u8)
  unfolding total_of
  width_next = ap (total_of field_width) (take_more fs k u8 h) ∙ total-append field_width (take k fs) (get_or fs k u8 ∷ []) ∙ ap (λ (w : ℕ). total_of field_width (take k fs) + w) (add-zero (field_width (get_or fs k u8)))

  -- the next field lies within them all
  pub width_within : total_of field_width (take k fs) + field_width (get_or fs k u8) ≤ total_of field_width fs
  width_within = omega (arith, width_next, total-append field_width (take (k + 1) fs) (drop (k + 1) fs), ap (total_of field_width) (take-append-drop (k + 1) fs))

  pub numbers_next : (b : List ℕ) (p : ℕ) → numbers_at (take (k + 1) fs) b p ≡ numbers_at (take k fs) b p ++ (field_at (get_or fs k u8) b (p + total_of field_width (take k fs)) ∷ [])
  unfolding numbers_at
  numbers_next b p = ap (λ (gs : List Field). numbers_at gs b p) (take_more fs k u8 h) ∙ numbers_append (take k fs) (get_or fs k u8 ∷ []) b p
