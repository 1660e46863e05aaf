use mathlib.Core.List.{map}
use mathlib.Core.Path.{refl, ◌∙◌}
use Prim.Native.Nat.{◌*◌}
use native.Mathlib.Omega.{arith}
use Rattle.arith.specs.Sums.{upto, across}
use Rattle.market.specs.Prices.{lmp_of, zone_prices, zone_price_count}
use Rattle.case_records.proofs.Places.{resources_is, zones_is}
use Rattle.price_list.proofs.Written.{prices_written}
use Rattle.arith.proofs.Buffers.{write_on}
use Rattle.arith.proofs.Tables.{table_length}
use Rattle.prices.specs.PricedCase.{the_case, the_prices}
use Rattle.price_list.proofs.write_prices.Goals as goal

pub returns : goal.returns
returns c = let cs = the_case c.args.bounded.now.priced in
    let y = the_prices c.args.bounded.now.priced in
    write_on (map (lmp_of cs y) (upto c.args.bounded.now.priced.case.resources)) (across (zone_prices y) (upto c.args.bounded.now.priced.case.zones)) c.args.out.now c.write_lmps.new.out c.write_zones.new.out c.args.bounded.now.priced.case.resources (zone_price_count * c.args.bounded.now.priced.case.zones) c.args.bounded.now.priced.case.resources (table_length (lmp_of cs y) c.args.bounded.now.priced.case.resources) refl (omega arith) c.write_lmps.ensures c.write_zones.ensures
    ∙ prices_written cs y (resources_is c.args.bounded.now.standing.prices.case_bytes) (zones_is c.args.bounded.now.standing.prices.case_bytes) c.args.out.now
