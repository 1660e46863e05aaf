use Prim.Native.Nat.{◌≤◌}
use native.Mathlib.Nat.{mul-le-mul}
use lib.IntN.{nat_abs}
use Rattle.bounds.specs.Terms.{step_least}
use Rattle.bounds.proofs.Figures.{sized_as, step_bound_most}
use Rattle.bounds.proofs.step_least.Goals as goal
use Rattle.bounds.proofs.step_least.Goals.{After-step_bound-upper}

upper-most : (c : After-step_bound-upper) → nat_abs c.step_bound-upper.result.0 ≤ nat_abs c.args.step.width.0
upper-most c = rw c.step_bound-upper.ensures (step_bound_most c.args.on c.args.step.width)

pub returns : goal.returns
unfolding step_least
returns c =
    sized_as c.least_of.ensures (rw (c.step_net-net.ensures.is, c.step_bound-upper.ensures))
    (mul-le-mul c.step_net-net.ensures.size (upper-most (goal.at.returns c).After-step_bound-upper))
