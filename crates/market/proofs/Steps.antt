-- Steps filled in order: what fills them adds up to the quantity, and no step holds more than its width.
use mathlib.Core.Path.{◌≡◌, sym, ◌∙◌, ap}
use mathlib.Core.Bool.{Bool, true, false, cond}
use mathlib.Core.List.{[], ◌∷◌}
use Prim.Native.Nat.{ℕ, zero, suc, ◌≤◌, min}
use native.Mathlib.Omega.{arith}
use lib.IntN.{ℤ, pos, ◌*ℤ◌, *ℤ-zero}
use Rattle.arith.specs.Sums.{sum_of, upto}
use Rattle.arith.proofs.Order.{*ℤ-+ℤ}
use Rattle.arith.proofs.Sums.{sum-append, sum_one}
use Rattle.market.specs.Case.{width_of}
use Rattle.market.specs.Cost.{filled}

filled_width : (w : ℕ → ℕ) (x n : ℕ) → width_of (filled w x) n ≡ min x (width_of w n)
unfolding width_of filled
filled_width w x zero = omega arith
filled_width w x (suc n) = omega (arith, filled_width w x n)

sum_width : (k : ℤ) (f : ℕ → ℕ) (n : ℕ) → sum_of (λ j. k *ℤ pos (f j)) (upto n) ≡ k *ℤ pos (width_of f n)
unfolding upto width_of sum_of
sum_width k f zero = sym (*ℤ-zero k)
sum_width k f (suc n) =
    sum-append (λ j. k *ℤ pos (f j)) (upto n) (n ∷ [])
    ∙ rw (sum_width k f n, sum_one (λ j. k *ℤ pos (f j)) n) (sym (*ℤ-+ℤ k (pos (width_of f n)) (pos (f n))))

-- at any weight k
pub filled_sum : (k : ℤ) (w : ℕ → ℕ) (x n : ℕ) → x ≤ width_of w n → sum_of (λ j. k *ℤ pos (filled w x j)) (upto n) ≡ k *ℤ pos x
filled_sum k w x n h = sum_width k (filled w x) n ∙ ap (λ (t : ℕ). k *ℤ pos t) (filled_width w x n ∙ omega arith)

pub filled_below : (w : ℕ → ℕ) (x j : ℕ) → filled w x j ≤ w j
unfolding filled
filled_below w x j = omega arith

-- a quantity and its steps whose bounds are 0 unless the resource is on-line
pub energy_below : (on : Bool) (w x : ℕ) → x ≤ cond on w 0 → x ≤ w
energy_below true w x h = h
energy_below false w x h = omega arith

pub step_below : (on : Bool) (w : ℕ → ℕ) (n x j : ℕ) → x ≤ cond on (width_of w n) 0 → filled w x j ≤ cond on (w j) 0
unfolding filled
step_below true w n x j h = omega arith
step_below false w n x j h = omega arith
