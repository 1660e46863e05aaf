use mathlib.Core.List.{List, ◌++◌}
use mathlib.Core.Path.{◌≡◌, ap, ◌∙◌}
use lib.IntN.{ℤ}
use lib.ListN.{drop}
use Rattle.market.specs.Rows.{resource_row_count}
use Rattle.limits.specs.Together.{limits_of}
use Rattle.prices.proofs.Known.{case_ranges, prices_in_range, resource_below}
use Rattle.row_charges.proofs.FromRecords.{limit_charges}
use Rattle.row_charges.proofs.Fit.{limit_room}
use Rattle.row_charges.proofs.write_resource.Goals as goal
use Rattle.row_charges.proofs.write_resource.Goals.{After-limits-held}
use Rattle.prices.specs.PricedCase.{the_case, the_prices, the_amounts}

held_is : (c : After-limits-held) →
    c.limits-held.result ≡ limits_of ((the_case c.args.kept.now.bounded.priced).resource c.args.i)
held_is c = c.limits-held.ensures

pub write_five-requires : goal.write_five-requires
write_five-requires c =
    rw (c.limit_prices-prices.ensures, held_is (goal.at.write_five-requires c).After-limits-held, c.amounts-own.ensures) (
      limit_room (the_case c.args.kept.now.bounded.priced) (the_amounts c.args.kept.now.bounded.priced) (the_prices c.args.kept.now.bounded.priced) (case_ranges c.args.kept.now.bounded.standing.prices) (prices_in_range c.args.kept.now.bounded.standing.prices) c.args.kept.now.bounded.standing.bounded
          c.args.i (resource_below c.args.kept.now.bounded.standing.prices c.requires.0),
      c.requires.1,
    )

pub returns : goal.returns
returns c =
    c.write_five.ensures
    ∙ rw (c.limit_prices-prices.ensures, held_is (goal.at.returns c).After-limits-held, c.amounts-own.ensures)
    (ap (λ (l : List ℤ). l ++ drop (resource_row_count (the_case c.args.kept.now.bounded.priced).version) c.args.out.now) (limit_charges (the_case c.args.kept.now.bounded.priced) (the_amounts c.args.kept.now.bounded.priced) (the_prices c.args.kept.now.bounded.priced) c.args.i (resource_below c.args.kept.now.bounded.standing.prices c.requires.0)))
