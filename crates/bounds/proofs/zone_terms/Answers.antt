use native.Mathlib.Omega.{arith}
use Rattle.prices.proofs.Known.{case_ranges, zone_small, zone_below}
use Rattle.bounds.proofs.Figures.{sized_as}
use Rattle.bounds.proofs.RowTerms.{requirements_small, zone_value_is}
use Rattle.prices.specs.PricedCase.{the_case, the_prices}
use Rattle.bounds.proofs.zone_terms.Goals as goal

pub zone_value-requires : goal.zone_value-requires
zone_value-requires c =
    let zone = c.args.zone in
    rw (c.zone_prices-prices.ensures, c.zone-needed.ensures)
    (zone_small c.args.priced.now.prices_stand zone c.requires, requirements_small _ (case_ranges c.args.priced.now.prices_stand) zone (zone_below c.args.priced.now.prices_stand c.requires))

pub returns : goal.returns
returns c =
    sized_as c.zone_value.ensures (rw (c.zone_prices-prices.ensures, c.zone-needed.ensures) (zone_value_is (the_case c.args.priced.now) (the_prices c.args.priced.now) c.args.zone)) (omega arith)
