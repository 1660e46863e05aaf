-- A sum that a loop makes over the numbers below n: of none of them, and of one more. The function of such a loop names the set
-- in its attribute: `#[tactic(auto, using(arith::proofs::SumSteps::sum_steps))]`.
use mathlib.Core.Path.{◌≡◌, refl}
use Prim.Native.Nat.{ℕ}
use lib.IntN.{ℤ, pos}
use Rattle.arith.specs.Sums.{sum_of, upto}
pub use Rattle.arith.proofs.Sums.{sum-upto}

pub sum_none : (term : ℕ → ℤ) → sum_of term (upto 0) ≡ pos 0
unfolding sum_of upto
sum_none term = refl

pub ruleset sum_steps = (sum_none, sum-upto)
