use Rattle.std.proofs.Common.{◌≡◌, ◌++◌, ◌*◌, drop}
use Rattle.arith.specs.Sums.{upto, across}
use Rattle.market.specs.Prices.{zone_prices, zone_price_count}
use Rattle.prices.specs.PricedCase.{the_prices}
use Rattle.price_list.proofs.write_zones.Given as goal

abbrev pub invariant-loop-zone : goal.invariant-loop-zone
invariant-loop-zone l = l.out ≡ across (zone_prices (the_prices l.priced)) (upto l.zone) ++ drop (zone_price_count * l.zone) l.initial.out
