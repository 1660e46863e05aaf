use mathlib.Core.Path.{◌≡◌, sym, ap, ◌∙◌}
use mathlib.Core.Bool.{false}
use native.Mathlib.Omega.{arith}
use lib.IntN.{pos}
use Rattle.market.specs.Records.{record_of, offer_steps_of, amounts_of}
use Rattle.market.specs.Availability.{on_line}
use Rattle.capabilities.proofs.Sizes.{bounds_small}
use Rattle.limits.specs.Together.{reserve_bounds_of}
use Rattle.prices.proofs.Known.{case_ranges, prices_in_range, resource_below}
use Rattle.net_prices.specs.NetPrices.{nets_of}
use Rattle.costs.specs.Worth.{thousands}
use Rattle.costs.proofs.Known.{resource_known, resource_room}
use Rattle.costs.proofs.Totals.{resource_worth_is}
use Rattle.bounds.proofs.PricedTerms.{resource_least_is}
use Rattle.valuations.proofs.Known.{steps_room}
use Rattle.costs.proofs.OffLine.{no_energy}
use Rattle.valuations.proofs.priced_value.Goals as goal
use Rattle.valuations.proofs.priced_value.Goals.{After-amounts-own, After-bounds-uppers, After-nets_for-nets, After-offer_steps-offer, After-on_line-on, After-resource-resource}
use Rattle.prices.specs.PricedCase.{the_case, the_prices, the_amounts}

resource : (c : After-resource-resource) → c.resource-resource.result ≡ record_of ((the_case c.args.kept.now.bounded.priced).resource c.args.i)
resource c = c.resource-resource.ensures

amounts : (c : After-amounts-own) → c.amounts-own.result.amounts ≡ amounts_of (the_amounts c.args.kept.now.bounded.priced) c.args.i
amounts c = c.amounts-own.ensures

steps : (c : After-offer_steps-offer) → c.offer_steps-offer.result.steps ≡ offer_steps_of ((the_case c.args.kept.now.bounded.priced).resource c.args.i)
steps c = c.offer_steps-offer.ensures

on_line_is : (c : After-on_line-on) → c.on_line-on.result ≡ on_line ((the_case c.args.kept.now.bounded.priced).resource c.args.i)
on_line_is c = c.on_line-on.ensures

bounds : (c : After-bounds-uppers) → c.bounds-uppers.result ≡ reserve_bounds_of (the_case c.args.kept.now.bounded.priced) ((the_case c.args.kept.now.bounded.priced).resource c.args.i)
bounds c = c.bounds-uppers.ensures

nets : (c : After-nets_for-nets) → c.nets_for-nets.result.prices ≡ nets_of (the_case c.args.kept.now.bounded.priced) (the_prices c.args.kept.now.bounded.priced) c.args.i
nets c = c.nets_for-nets.ensures

idle : (c : After-on_line-on) → c.on_line-on.result ≡ false → c.amounts-own.result.amounts.energy.0 ≡ pos 0
unfolding amounts_of
idle c off =
    rw c.amounts-own.ensures (ap pos (no_energy c.args.kept.now.bounded.standing c.args.i c.requires.resource (sym (on_line_is c) ∙ off)))

pub energy_value-energy-requires : goal.energy_value-energy-requires
energy_value-energy-requires c =
    (steps_room c.args.kept.now.bounded.standing c.args.i c.requires.resource (steps (goal.at.energy_value-energy-requires c).After-offer_steps-offer) (amounts (goal.at.energy_value-energy-requires c).After-amounts-own), idle (goal.at.energy_value-energy-requires c).After-on_line-on)

pub reserves_worth-reserves-requires : goal.reserves_worth-reserves-requires
reserves_worth-reserves-requires c =
    rw (resource (goal.at.reserves_worth-reserves-requires c).After-resource-resource) (resource_known c.args.kept.now.bounded.standing c.args.i c.requires.resource).offers

pub reserves_least-least-requires : goal.reserves_least-least-requires
reserves_least-least-requires c =
    let p = c.args.kept.now.bounded.standing.prices in
    let n = resource_below p c.requires.resource in
    rw (bounds (goal.at.reserves_least-least-requires c).After-bounds-uppers) (bounds_small _ (case_ranges p) c.args.i n)

pub sum-requires : goal.sum-requires
sum-requires c =
    rw (c.energy_value-energy.ensures.worth_is, c.reserves_worth-reserves.ensures, steps (goal.at.sum-requires c).After-offer_steps-offer, resource (goal.at.sum-requires c).After-resource-resource, amounts (goal.at.sum-requires c).After-amounts-own) (resource_room c.args.kept.now.bounded.standing c.args.i c.requires.resource)

pub returns : goal.returns
returns c =
    let i = c.args.i in
    let p = c.args.kept.now.bounded.standing.prices in
    record {
      worth_is =
          c.sum.ensures
          ∙ rw (c.energy_value-energy.ensures.worth_is, c.reserves_worth-reserves.ensures, steps (goal.at.returns c).After-offer_steps-offer, resource (goal.at.returns c).After-resource-resource, amounts (goal.at.returns c).After-amounts-own)
          (ap thousands (resource_worth_is (the_case c.args.kept.now.bounded.priced) (the_amounts c.args.kept.now.bounded.priced) i));
      least_is =
          record {
            is =
                c.sized_sum.ensures.is
                ∙ rw (c.energy_value-energy.ensures.least_is.is, c.reserves_least-least.ensures.is, nets (goal.at.returns c).After-nets_for-nets, on_line_is (goal.at.returns c).After-on_line-on, steps (goal.at.returns c).After-offer_steps-offer, bounds (goal.at.returns c).After-bounds-uppers)
                (resource_least_is (the_case c.args.kept.now.bounded.priced) (the_prices c.args.kept.now.bounded.priced) (case_ranges p) (prices_in_range p) i (resource_below p c.requires.resource));
            size = omega (arith, c.sized_sum.ensures.size, c.energy_value-energy.ensures.least_is.size, c.reserves_least-least.ensures.size);
          };
    }
