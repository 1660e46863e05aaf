use native.Mathlib.Omega.{arith}
use Rattle.costs.specs.Worth.{reserves_worth}
use Rattle.costs.proofs.Totals.{regulation_size, contingency_size, short_term_size, last_size}
use Rattle.costs.proofs.reserves_worth.Goals as goal

pub sum-requires : goal.sum-requires
sum-requires c = rw (c.worth-contingency.ensures, c.worth-short_term.ensures) (omega (arith, contingency_size c.requires c.args.own.small, short_term_size c.requires c.args.own.small))

pub sum-requires-2 : goal.sum-requires-2
sum-requires-2 c = rw (c.sum.ensures, c.worth-regulation.ensures, c.worth-contingency.ensures, c.worth-short_term.ensures) (omega (arith, regulation_size c.requires c.args.own.small, last_size c.requires c.args.own.small))

pub returns : goal.returns
unfolding reserves_worth
returns c = rw (c.sum-2.ensures, c.sum.ensures, c.worth-regulation.ensures, c.worth-contingency.ensures, c.worth-short_term.ensures)
