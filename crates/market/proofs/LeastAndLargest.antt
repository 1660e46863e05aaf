-- The least of two or three numbers, and the largest of 0, a difference and a third number, one of them and none beyond it.
use mathlib.Core.List.{[], ◌∷◌}
use mathlib.Core.Logic.{inl, inr}
use mathlib.Core.Path.{◌≡◌, sym, ◌∙◌, ap}
use Prim.Native.Nat.{ℕ, ◌-◌, ◌≤◌, min, max}
use native.Mathlib.Decide.{dec_le}
use native.Mathlib.Omega.{arith}
use lib.IntN.{pos, neg_ℤ, ◌-ℤ◌}
use lib.Signed.{◌≤ℤ◌}
use Rattle.arith.proofs.Parts.{add_fact, le_out, le_in, plus_part-neg, minus_part-neg}
use Rattle.arith.proofs.Order.{pos-sub}
use Rattle.market.specs.AvailabilityInWords.{OneOf, LeastOf, LargestOf}

module _ (n : ℕ) where
  pub least_of_two : (a b : ℕ) → n ≡ min a b → LeastOf (a ∷ b ∷ []) n
  least_of_two a b e = ((omega arith, (omega arith, tt)), go (dec_le a b))
    where
      go : Dec (a ≤ b) → OneOf (a ∷ b ∷ []) n
      go (yes h) = inl (omega arith)
      go (no h) = inr (inl (omega arith))

  pub least_of_three : (a b c : ℕ) → n ≡ min a (min b c) → LeastOf (a ∷ b ∷ c ∷ []) n
  least_of_three a b c e = ((omega arith, (omega arith, (omega arith, tt))), go (dec_le a (min b c)) (dec_le b c))
    where
      go : Dec (a ≤ min b c) → Dec (b ≤ c) → OneOf (a ∷ b ∷ c ∷ []) n
      go (yes h) t = inl (omega arith)
      go (no h) (yes k) = inr (inl (omega arith))
      go (no h) (no k) = inr (inr (inl (omega arith)))

  module _ (a d : ℕ) where
    not_negative : pos 0 ≤ℤ pos n
    not_negative = le_in (omega arith)

    at_least_difference : a - d ≤ n → (pos a -ℤ pos d) ≤ℤ pos n
    at_least_difference h = le_in (omega (arith, add_fact (pos a) (neg_ℤ (pos d)), plus_part-neg (pos d), minus_part-neg (pos d)))

    pub difference_to : (pos a -ℤ pos d) ≤ℤ pos n → a - d ≤ n
    difference_to h = omega (arith, le_out h, add_fact (pos a) (neg_ℤ (pos d)), plus_part-neg (pos d), minus_part-neg (pos d))

    difference : n ≡ a - d → d ≤ a → pos n ≡ pos a -ℤ pos d
    difference e l = ap pos e ∙ sym (pos-sub a d l)

    pub larger_of_difference : n ≡ a - d → LargestOf (pos 0 ∷ (pos a -ℤ pos d) ∷ []) (pos n)
    larger_of_difference e = ((not_negative, (at_least_difference (omega arith), tt)), go (dec_le d a))
      where
        go : Dec (d ≤ a) → OneOf (pos 0 ∷ (pos a -ℤ pos d) ∷ []) (pos n)
        go (yes l) = inr (inl (difference e l))
        go (no l) = let z : n ≡ 0 = omega arith in inl (ap pos z)

    pub largest_with : (s : ℕ) → n ≡ max (a - d) s → LargestOf (pos 0 ∷ (pos a -ℤ pos d) ∷ pos s ∷ []) (pos n)
    largest_with s e = ((not_negative, (at_least_difference (omega arith), (le_in (omega arith), tt))), go (dec_le (a - d) s))
      where
        go : Dec (a - d ≤ s) → OneOf (pos 0 ∷ (pos a -ℤ pos d) ∷ pos s ∷ []) (pos n)
        go (yes l) = let z : n ≡ s = omega arith in inr (inr (inl (ap pos z)))
        go (no l) = inr (inl (difference (omega arith) (omega arith)))
