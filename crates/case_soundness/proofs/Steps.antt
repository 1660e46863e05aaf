-- Steps: the test of one after another, by the width of the later one; the widths' sum as a loop takes it.
use Rattle.std.proofs.Common.{◌≡◌, ℕ, zero, suc, ◌+◌, ◌<◌, Bool, ◌&&◌, ltb, ℤ, pos, sym, refl, ◌∙◌, add-one}
use Rattle.market.specs.Bytes.{within_ℤ, signed}
use Rattle.market.specs.Case.{width_of}
use Rattle.market.specs.CaseCheck.{steps_follow}
use Rattle.case_ranges.proofs.Halves.{zero_plain, zero_signed}

module _ (may : ℤ → ℤ → Bool) (w : ℕ) (p : ℤ) where
  pub follow_none : (w' : ℕ) (p' : ℤ) → w' ≡ 0 → steps_follow may w p w' p' ≡ within_ℤ (pos 0) (pos 0) p'
  unfolding steps_follow
  follow_none w' p' e = rw e

  pub follow_some : (w' : ℕ) (p' : ℤ) → (w' ≡ 0 → ⊥) → steps_follow may w p w' p' ≡ (ltb 0 w && may p p')
  unfolding steps_follow
  follow_some zero p' h = absurd (h refl)
  follow_some (suc w') p' h = refl

  -- the order of the two prices as one flag
  pub follow_by : (w' : ℕ) (p' : ℤ) → steps_follow (λ a c. may p p') w (pos 0) w' p' ≡ steps_follow may w p w' p'
  unfolding steps_follow
  follow_by zero p' = refl
  follow_by (suc w') p' = refl

-- where the order is one flag, only a price that is not 0 tells: a number in two's complement does as well as its value
pub follow_signed : (o : Bool) (w w' n : ℕ) → n < 4294967296 → steps_follow (λ a c. o) w (pos 0) w' (pos n) ≡ steps_follow (λ a c. o) w (pos 0) w' (signed 2147483648 n)
unfolding steps_follow
follow_signed o w zero n l = zero_plain n ∙ sym (zero_signed n 2147483648 l)
follow_signed o w (suc w') n l = refl

pub width_none : (w : ℕ → ℕ) → width_of w 0 ≡ 0
unfolding width_of
width_none w = refl

pub width_more : (w : ℕ → ℕ) (j : ℕ) → width_of w (j + 1) ≡ width_of w j + w j
unfolding width_of
width_more w j = rw (add-one j)
