use Rattle.std.proofs.Common.{◌≡◌, ◌++◌, ◌+◌, ◌*◌, ◌-◌, arith, refl, length, take, drop}
use Rattle.arith.specs.Sums.{upto, across}
use Rattle.arith.proofs.Buffers.{write_on}
use Rattle.arith.proofs.Lists.{across-upto}
use Rattle.market.specs.Prices.{zone_prices, zone_price_count}
use Rattle.prices.specs.ZonePrices.{zone_prices_of}
use Rattle.price_list.proofs.Written.{zone_count}
use Rattle.prices.specs.PricedCase.{the_prices}
use Rattle.price_list.proofs.write_zones.Goals as goal

pub loop-zone-init : goal.loop-zone-init
unfolding upto across
loop-zone-init c = refl

pub loop-zone-preserved : goal.loop-zone-preserved
unfolding zone_prices_of
loop-zone-preserved c =
    let zone = c.loop-zone.zone in
    let at = zone_price_count * zone in
    let out = c.loop-zone.out in
    let y = the_prices c.args.priced.now in
    let e : at + zone_price_count ≡ zone_price_count * (zone + 1) = omega arith in
    let written : c.write_zone.new.out ≡ zone_prices y zone ++ drop zone_price_count (take (length out - at) (drop at out)) = rw c.zone_prices-p.ensures at c.write_zone.ensures in
    rw (across-upto (zone_prices y) zone, ← e)
    (write_on (across (zone_prices y) (upto zone)) (zone_prices y zone) c.args.out.now out c.write_zone.new.out at zone_price_count at (zone_count y zone) refl (omega arith) c.loop-zone.invariant written)
