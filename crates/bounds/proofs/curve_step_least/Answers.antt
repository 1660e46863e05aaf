use native.Mathlib.Nat.{mul-le-mul}
use Rattle.bounds.specs.Terms.{curve_step_least}
use Rattle.bounds.proofs.Figures.{sized_as}
use Rattle.bounds.proofs.curve_step_least.Goals as goal

pub returns : goal.returns
unfolding curve_step_least
returns c = sized_as c.least_of.ensures (rw c.curve_net-net.ensures.is) (mul-le-mul c.curve_net-net.ensures.size c.requires.1.width)
