use Rattle.std.proofs.Common.{refl, sym, ◌≡◌, arith}
use Rattle.market.specs.Rows.{zone_row_count}
use Rattle.case_records.proofs.Places.{zones_is}
use Rattle.prices.proofs.Known.{zone_below}
use Rattle.units.proofs.Search.{search_none, search_more, search_stop}
use Rattle.prices.specs.PricedCase.{the_case}
use Rattle.rows.proofs.zones_short.Goals as goal

pub loop-zone-init : goal.loop-zone-init
loop-zone-init c = search_none _ _ _ zone_row_count (λ i. refl) _

pub returns-in-Some : goal.returns-in-Some
returns-in-Some c = search_stop _ _ _ zone_row_count (λ i. refl) _ c.loop-zone.zone c.loop-zone.invariant c.zone_short.result c.zone_short.ensures _ c.in-Some.row (zone_below c.args.have.now.bounded.standing.prices (omega arith)) cc

pub loop-zone-preserved : goal.loop-zone-preserved
loop-zone-preserved c = search_more _ _ _ zone_row_count (λ i. refl) _ c.loop-zone.zone c.loop-zone.invariant c.zone_short.result c.zone_short.ensures cc

pub returns : goal.returns
returns c =
    let e : c.loop-zone.zone ≡ (the_case c.args.have.now.bounded.priced).zones = omega (arith, zones_is c.args.have.now.bounded.standing.prices.case_bytes) in
    sym (rw e at c.loop-zone.invariant)
