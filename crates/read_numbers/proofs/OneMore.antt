-- One field more of a list of fields: where it stands, where the next one does, and the buffer once its number is stored.
use mathlib.Core.Path.{◌≡◌, ◌∙◌, ap}
use mathlib.Core.List.{List, ◌++◌}
use Prim.Native.Nat.{ℕ, ◌+◌, ◌<◌, ◌≤◌}
use native.Mathlib.Omega.{arith}
use lib.IntN.{ℤ}
use lib.ListN.{length, get_or, take, drop, set}
use lib.Seq.{length-take-le}
use Rattle.arith.specs.Sums.{total_of}
use Rattle.market.specs.Numbers.{Field, u8, field_width, field_at, numbers_at}
use Rattle.market.proofs.FieldLists.{numbers_length}
use Rattle.arith.proofs.Buffers.{store_on}
use Rattle.fields.proofs.Walk.{width_next, width_within, numbers_next}

-- the k-th field stands at the place `at`
module _ (fs : List Field) (b : List ℕ) (k at : ℕ) (h : k < length fs) (place : at ≡ 5 + total_of field_width (take k fs)) where
  pub place_within : length b ≡ 5 + total_of field_width fs → at + field_width (get_or fs k u8) ≤ length b
  place_within filled = omega (arith, width_within fs k h)

  pub next_place : (w : ℕ) → w ≡ field_width (get_or fs k u8) → at + w ≡ 5 + total_of field_width (take (k + 1) fs)
  next_place w e = omega (arith, width_next fs k h)

  pub store_number : (old out : List ℤ) (v : ℤ) → v ≡ field_at (get_or fs k u8) b at → k < length old → out ≡ numbers_at (take k fs) b 5 ++ drop k old
      → set out k v ≡ numbers_at (take (k + 1) fs) b 5 ++ drop (k + 1) old
  store_number old out v e l front =
      let many : length (numbers_at (take k fs) b 5) ≡ k = numbers_length (take k fs) b 5 ∙ length-take-le k fs (omega arith) in
      let number : v ≡ field_at (get_or fs k u8) b (5 + total_of field_width (take k fs)) = e ∙ ap (field_at (get_or fs k u8) b) place in
      rw (numbers_next fs k h b 5, ← number) (store_on (numbers_at (take k fs) b 5) old out v k many l front)
