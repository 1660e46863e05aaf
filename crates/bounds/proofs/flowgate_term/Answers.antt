use mathlib.Core.Path.{◌≡◌, ◌∙◌}
use native.Mathlib.Omega.{arith}
use lib.IntN.{pos, ◌-ℤ◌, ◌*ℤ◌}
use Rattle.market.specs.Records.{watts}
use Rattle.prices.proofs.Known.{limit_room}
use Rattle.bounds.proofs.Figures.{sized_is, sized_as}
use Rattle.bounds.proofs.RowTerms.{flowgate_room, flowgate_term_size, flowgate_value_is}
use Rattle.bounds.proofs.flowgate_term.Goals as goal
use Rattle.bounds.proofs.flowgate_term.Goals.{After-difference-side}
use Rattle.prices.specs.PricedCase.{the_case, the_prices}

pub in_watts-most-requires : goal.in_watts-most-requires
in_watts-most-requires c = rw c.flowgate_limit-limit.ensures (limit_room c.args.priced.now.prices_stand c.args.flowgate c.requires)

side : (c : After-difference-side) →
    c.difference-side.result ≡ watts (pos 0 -ℤ pos 1000 *ℤ (the_case c.args.priced.now).flowgate_limit c.args.flowgate)
side c = c.difference-side.ensures ∙ rw (c.in_watts-most.ensures, c.flowgate_limit-limit.ensures)

pub flow_value-requires : goal.flow_value-requires
flow_value-requires c =
    rw (side (goal.at.flow_value-requires c).After-difference-side, c.flowgate_price-price.ensures) (flowgate_room c.args.priced.now.prices_stand c.args.flowgate c.requires)

pub returns : goal.returns
returns c =
    let g = c.args.flowgate in
    sized_as
    (sized_is (c.flow_value.ensures ∙ rw (side (goal.at.returns c).After-difference-side, c.flowgate_price-price.ensures)) (flowgate_term_size c.args.priced.now.prices_stand g c.requires))
    (flowgate_value_is (the_case c.args.priced.now) (the_prices c.args.priced.now) g)
    (omega arith)
