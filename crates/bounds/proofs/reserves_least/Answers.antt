use Prim.Native.Nat.{◌≤◌}
use native.Mathlib.Nat.{mul-le-mul}
use native.Mathlib.Omega.{arith}
use lib.IntN.{nat_abs}
use Rattle.market.specs.UpperBounds.{regulation, contingency, on_line_short_term, off_line_short_term}
use Rattle.bounds.specs.Sizes.{most_service_term}
use Rattle.bounds.specs.Terms.{reserves_least}
use Rattle.bounds.proofs.reserves_least.Goals as goal
use Rattle.bounds.proofs.reserves_least.Goals.{After-least_of-contingency, After-least_of-off_line, After-least_of-on_line, After-least_of-regulation}

regulation-most : (c : After-least_of-regulation) → nat_abs c.least_of-regulation.result.0 ≤ most_service_term regulation
regulation-most c = omega (arith, c.least_of-regulation.ensures.size, mul-le-mul c.args.nets.small.regulation c.requires.regulation)

contingency-most : (c : After-least_of-contingency) → nat_abs c.least_of-contingency.result.0 ≤ most_service_term contingency
contingency-most c = omega (arith, c.least_of-contingency.ensures.size, mul-le-mul c.args.nets.small.contingency c.requires.contingency)

on-line-most : (c : After-least_of-on_line) → nat_abs c.least_of-on_line.result.0 ≤ most_service_term on_line_short_term
on-line-most c = omega (arith, c.least_of-on_line.ensures.size, mul-le-mul c.args.nets.small.on_line_short_term c.requires.on_line_short_term)

off-line-most : (c : After-least_of-off_line) → nat_abs c.least_of-off_line.result.0 ≤ most_service_term off_line_short_term
off-line-most c = omega (arith, c.least_of-off_line.ensures.size, mul-le-mul c.args.nets.small.off_line_short_term c.requires.off_line_short_term)

pub returns : goal.returns
unfolding reserves_least
returns c =
    record {
      is = cc;
      size = omega (arith, regulation-most (goal.at.returns c).After-least_of-regulation, contingency-most (goal.at.returns c).After-least_of-contingency, on-line-most (goal.at.returns c).After-least_of-on_line, off-line-most (goal.at.returns c).After-least_of-off_line);
    }
