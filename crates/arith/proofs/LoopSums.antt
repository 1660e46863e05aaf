-- A sum that a loop makes over the numbers below n, in a unit: what stands before the first turn, and after one more.
-- A proof's invariant is `SumTo n j sum`; its two needs are `no_turn_yet` and `one_turn_more`.
use mathlib.Core.Path.{◌≡◌, refl, ◌∙◌}
use Prim.Native.Nat.{ℕ, ◌+◌, ◌<◌, ◌≤◌}
use native.Mathlib.Omega.{arith}
use lib.IntN.{ℤ, pos, ◌+ℤ◌}
use Rattle.arith.specs.Sums.{sum_of, upto}
use Rattle.arith.proofs.Sums.{sum-upto}

-- `unit z` is a figure of z units, `value` takes it out again
module _ {U : Type 0} (unit : ℤ → U) (value : U → ℤ) (again : (z : ℤ) → value (unit z) ≡ z) (term : ℕ → ℤ) where
  abbrev pub SumTo : ℕ → ℕ → U → Type 0
  SumTo n j sum = (j ≤ n) × (sum ≡ unit (sum_of term (upto j)))

  pub no_turn_yet : (n : ℕ) → SumTo n 0 (unit (pos 0))
  unfolding sum_of upto
  no_turn_yet n = (omega arith, refl)

  pub one_turn_more : {n j : ℕ} {sum one next : U} → SumTo n j sum → j < n → one ≡ unit (term j) → next ≡ unit (value sum +ℤ value one) → SumTo n (j + 1) next
  one_turn_more {n} {j} h l e k = (omega arith, k ∙ rw (h.1, e, again (sum_of term (upto j)), again (term j), sum-upto term j))
