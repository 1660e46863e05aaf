use mathlib.Core.Path.{◌∙◌}
use Rattle.prices.proofs.Known.{market_small, zone_small, zone_prices_are}
use Rattle.prices.specs.PricedCase.{the_prices}
use Rattle.prices.proofs.priced_case.PricedCase.zone_prices.Goals as goal

pub added-requires : goal.added-requires
added-requires c = rw (c.market_prices-m.ensures, c.zone_prices-n.ensures) (market_small c.args.self.now.prices_stand, zone_small c.args.self.now.prices_stand c.args.zone c.requires)

pub returns : goal.returns
returns c = c.added.ensures ∙ rw (c.market_prices-m.ensures, c.zone_prices-n.ensures, zone_prices_are (the_prices c.args.self.now) c.args.zone)
