use mathlib.Core.Path.{ap, ◌∙◌}
use Rattle.arith.specs.Sums.{upto}
use Rattle.market.specs.Records.{grains}
use Rattle.case_records.proofs.Places.{resources_is}
use Rattle.costs.proofs.Known.{cost_room, grains_room}
use Rattle.costs.proofs.Totals.{cost_is}
use Rattle.prices.specs.PricedCase.{the_case, the_amounts}
use Rattle.costs.proofs.cost.Goals as goal

pub difference-requires : goal.difference-requires
difference-requires c = simp (c.requires, c.curves_value-value.ensures) (cost_room c.args.bounded.now.standing)

pub in_grains-requires : goal.in_grains-requires
in_grains-requires c = simp (c.difference.ensures, c.requires, c.curves_value-value.ensures) (grains_room c.args.bounded.now.standing)

pub returns : goal.returns
returns c = c.in_grains.ensures ∙ rw (c.difference.ensures, c.requires, c.curves_value-value.ensures, ap upto (resources_is c.args.bounded.now.standing.prices.case_bytes)) (ap grains (cost_is (the_case c.args.bounded.now.priced) (the_amounts c.args.bounded.now.priced)))
