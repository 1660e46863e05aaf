use Rattle.net_prices.proofs.Known.{zone_is, offers_small, limit_prices_small, lmp_small, zone_prices_small, nets_are, nets_small}
use Rattle.prices.proofs.Known.{zone_from_one, case_ranges, prices_in_range, resource_below, zone_in_case}
use Rattle.net_prices.specs.NetPrices.{nets_of}
use Rattle.prices.specs.ZonePrices.{zone_prices_of}
use Rattle.market.specs.Records.{record_of}
use Prim.Native.Nat.{◌-◌}
use mathlib.Core.Path.{◌≡◌, ◌∙◌}
use Rattle.net_prices.proofs.nets_for.Goals as goal
use Rattle.net_prices.proofs.nets_for.Goals.{After-nets_of, After-zone_prices-prices, Start}
use Rattle.prices.specs.PricedCase.{the_case, the_prices}

zone : (c : Start) → c.args.resource.state.zone ≡ ((the_case c.args.priced.now).resource c.args.i).zone
zone c = zone_is ((the_case c.args.priced.now).resource c.args.i) c.requires.resource.1.1

zone-prices : (c : After-zone_prices-prices) →
    c.zone_prices-prices.result ≡ zone_prices_of (the_prices c.args.priced.now) (((the_case c.args.priced.now).resource c.args.i).zone - 1)
zone-prices c = c.zone_prices-prices.ensures ∙ rw (c.from-zone.ensures, zone_is ((the_case c.args.priced.now).resource c.args.i) c.requires.resource.1.1)

pub zone_prices-prices-requires : goal.zone_prices-prices-requires
zone_prices-prices-requires c = rw (c.from-zone.ensures, zone (goal.at.zone_prices-prices-requires c).Start) (zone_in_case c.args.priced.now.prices_stand c.requires.resource.0)

pub nets_of-requires : goal.nets_of-requires
unfolding record_of
nets_of-requires c =
    let i = c.args.i in
    let h = case_ranges c.args.priced.now.prices_stand in
    let p = prices_in_range c.args.priced.now.prices_stand in
    let n = resource_below c.args.priced.now.prices_stand c.requires.resource.0 in
    rw (c.requires.resource.1.1, c.limit_prices-own.ensures, c.requires.lmp_value, zone-prices (goal.at.nets_of-requires c).After-zone_prices-prices)
    (offers_small _ _ h p i n, (limit_prices_small _ _ h p i n, (lmp_small _ _ h p i n, zone_prices_small _ _ h p i n)))

-- what is made of the records is the definition's
made : (c : After-nets_of) →
    c.zone_prices-prices.result ≡ zone_prices_of (the_prices c.args.priced.now) (((the_case c.args.priced.now).resource c.args.i).zone - 1) →
    c.nets_of.result ≡ nets_of (the_case c.args.priced.now) (the_prices c.args.priced.now) c.args.i
unfolding record_of
made c z =
    c.nets_of.ensures
    ∙ rw (c.requires.resource.1.0, c.requires.resource.1.1, c.limit_prices-own.ensures, c.requires.lmp_value, z)
    (nets_are _ _ (case_ranges c.args.priced.now.prices_stand) (prices_in_range c.args.priced.now.prices_stand) c.args.i (resource_below c.args.priced.now.prices_stand c.requires.resource.0))

pub returns : goal.returns
returns c = made (goal.at.returns c).After-nets_of (zone-prices (goal.at.returns c).After-zone_prices-prices)

pub invariant_of-result : goal.invariant_of-result
invariant_of-result c =
    let p = c.args.priced.now.prices_stand in
    let after = goal.at.invariant_of-result c in
    record { small = rw (made after.After-nets_of (zone-prices after.After-zone_prices-prices)) (nets_small _ _ (case_ranges p) (prices_in_range p) c.args.i (resource_below p c.requires.resource.0)) }

pub overflow_sub-zone : goal.overflow_sub-zone
overflow_sub-zone c = rw (c.from-zone.ensures, zone (goal.at.overflow_sub-zone c).Start) (zone_from_one c.args.priced.now.prices_stand c.requires.resource.0)
