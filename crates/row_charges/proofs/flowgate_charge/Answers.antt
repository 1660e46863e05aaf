use mathlib.Core.Path.{◌≡◌, ap, ◌∙◌}
use mathlib.Core.List.{List}
use Prim.Native.Nat.{ℕ, ◌≤◌}
use native.Mathlib.Omega.{arith}
use lib.IntN.{ℤ, pos, nat_abs, ◌-ℤ◌, ◌*ℤ◌}
use Rattle.arith.specs.Sums.{sum_of, upto}
use Rattle.market.specs.CaseFile.{case_of}
use Rattle.market.specs.UpperBounds.{energy}
use Rattle.market.specs.Certificate.{certificate_of}
use Rattle.market.specs.InWords.{kw_of}
use Rattle.market.specs.Records.{grains, watts}
use Rattle.case_records.proofs.Places.{resources_is}
use Rattle.prices.proofs.Known.{case_ranges, prices_in_range, flowgate_below, flowgate_size_lem, limit_room}
use Rattle.row_charges.proofs.FromRecords.{flowgate_charge}
use Rattle.row_charges.proofs.Fit.{most_side, limit_side, flow_side, flow_value_room}
use Rattle.row_charges.proofs.flowgate_charge.Goals as goal
use Rattle.row_charges.proofs.flowgate_charge.Goals.{After-difference-slack, Start}
use Rattle.certificate_records.specs.Reader.{certificate_in}
use Rattle.prices.specs.PricedCase.{the_case, the_prices, the_amounts, case_bytes, certificate_bytes}

-- the limit and the flow
abbrev most : List ℕ → ℕ → ℤ
most b g = pos 1000 *ℤ (case_of b).flowgate_limit g

abbrev flows : List ℕ → List ℕ → ℕ → ℕ → ℤ
flows b q r g = sum_of (λ i. (case_of b).shift_factor g i *ℤ kw_of (certificate_of q).amount i energy) (upto r)

limit-most : (c : Start) → nat_abs (most (case_bytes c.args.energies.now.bounded.priced) c.args.g) ≤ most_side
limit-most c =
    let k = certificate_in c.args.energies.now.bounded.priced.certificate in
    let p = c.args.energies.now.bounded.standing.prices in
    limit_side (the_case c.args.energies.now.bounded.priced) k.amount k.price (case_ranges p) (prices_in_range p) c.args.energies.now.bounded.standing.bounded c.args.g (flowgate_below p c.requires)

flow-most : (c : Start) → nat_abs (flows (case_bytes c.args.energies.now.bounded.priced) (certificate_bytes c.args.energies.now.bounded.priced) c.args.energies.now.bounded.priced.case.resources c.args.g) ≤ most_side
flow-most c =
    let k = certificate_in c.args.energies.now.bounded.priced.certificate in
    let p = c.args.energies.now.bounded.standing.prices in
    flow_side (the_case c.args.energies.now.bounded.priced) k.amount k.price (case_ranges p) (prices_in_range p) c.args.energies.now.bounded.standing.bounded c.args.energies.now.bounded.priced.case.resources c.args.g (resources_is p.case_bytes) (flowgate_below p c.requires)

pub in_watts-most-requires : goal.in_watts-most-requires
in_watts-most-requires c = rw c.flowgate_limit-limit.ensures (limit_room c.args.energies.now.bounded.standing.prices c.args.g c.requires)

pub difference-slack-requires : goal.difference-slack-requires
difference-slack-requires c =
    rw (c.in_watts-most.ensures, c.flowgate_limit-limit.ensures, c.flow-flows.ensures) (omega (arith, limit-most (goal.at.difference-slack-requires c).Start, flow-most (goal.at.difference-slack-requires c).Start))

slack-is : (c : After-difference-slack) →
    c.difference-slack.result ≡ watts (most (case_bytes c.args.energies.now.bounded.priced) c.args.g -ℤ flows (case_bytes c.args.energies.now.bounded.priced) (certificate_bytes c.args.energies.now.bounded.priced) c.args.energies.now.bounded.priced.case.resources c.args.g)
slack-is c = c.difference-slack.ensures ∙ rw (c.in_watts-most.ensures, c.flowgate_limit-limit.ensures, c.flow-flows.ensures)

pub flow_value-requires : goal.flow_value-requires
flow_value-requires c =
    rw (slack-is (goal.at.flow_value-requires c).After-difference-slack, c.flowgate_price-price.ensures)
    (flow_value_room _ (most (case_bytes c.args.energies.now.bounded.priced) c.args.g) (flows (case_bytes c.args.energies.now.bounded.priced) (certificate_bytes c.args.energies.now.bounded.priced) c.args.energies.now.bounded.priced.case.resources c.args.g) (flowgate_size_lem c.args.energies.now.bounded.standing.prices _ (omega (arith, c.requires))) (limit-most (goal.at.flow_value-requires c).Start) (flow-most (goal.at.flow_value-requires c).Start))

pub returns : goal.returns
returns c =
    c.flow_value.ensures
    ∙ rw (slack-is (goal.at.returns c).After-difference-slack, c.flowgate_price-price.ensures)
    (ap grains (flowgate_charge (the_case c.args.energies.now.bounded.priced) (the_amounts c.args.energies.now.bounded.priced) (the_prices c.args.energies.now.bounded.priced) c.args.energies.now.bounded.priced.case.resources c.args.g (resources_is c.args.energies.now.bounded.standing.prices.case_bytes)))
