use mathlib.Core.Path.{◌≡◌, ap, ◌∙◌}
use native.Mathlib.Omega.{arith}
use Rattle.arith.specs.Sums.{sum_of, upto}
use Rattle.market.specs.InWords.{reserve_of}
use Rattle.market.specs.Records.{curve_amounts_of}
use Rattle.reserves.specs.declared.ZonedAmounts.{ZonedAmounts}
use Rattle.reserves.specs.Given.{zoned_amounts_of}
use Rattle.reserves.proofs.Known.{given_small}
use Rattle.reserves.proofs.Sums.{sums_more, sums_room}
use Rattle.reserves.proofs.Zones.{own_zone_from_one, zone_below, zone_room, zones_more}
use Rattle.reserves.proofs.totals.Goals as goal
use Rattle.reserves.proofs.totals.Goals.{After-reserve_given-one, After-from-zone}
use Rattle.prices.specs.PricedCase.{the_case, the_amounts}

pub loop-i-init : goal.loop-i-init
unfolding sum_of upto
loop-i-init c = (c.nothing-market.ensures, rw c.nothing-market.ensures)

zone-is : (c : After-from-zone) →
    c.from-zone.result ≡ ((the_case c.args.kept.now.bounded.priced).resource c.loop-i.i).zone
unfolding zoned_amounts_of
zone-is c = c.from-zone.ensures ∙ ap (λ (v : ZonedAmounts). v.zone) c.reserve_given-one.ensures

own_is : (c : After-reserve_given-one) →
    c.reserve_given-one.result.amounts ≡ curve_amounts_of (λ k. reserve_of (the_case c.args.kept.now.bounded.priced) (the_amounts c.args.kept.now.bounded.priced) k c.loop-i.i)
unfolding zoned_amounts_of
own_is c = ap (λ (v : ZonedAmounts). v.amounts) c.reserve_given-one.ensures

pub amounts_sum-market-requires : goal.amounts_sum-market-requires
amounts_sum-market-requires c =
    let l = c.loop-i in
    rw (l.invariant.0, own_is (goal.at.amounts_sum-market-requires c).After-reserve_given-one)
    (sums_room (λ k. reserve_of (the_case c.args.kept.now.bounded.priced) (the_amounts c.args.kept.now.bounded.priced) k) c.args.kept.now.bounded.priced.case.resources c.args.kept.now.bounded.standing.prices.case_bytes.counts.most_resources (given_small c.args.kept.now.bounded.standing) l.i (omega arith))

pub bounds-zones-zone : goal.bounds-zones-zone
bounds-zones-zone c = zone_below c.args.kept.now.bounded.standing c.loop-i.i _ (omega arith) (zone-is (goal.at.bounds-zones-zone c).After-from-zone)

pub amounts_sum-requires : goal.amounts_sum-requires
amounts_sum-requires c =
    let l = c.loop-i in
    rw (l.invariant.1, own_is (goal.at.amounts_sum-requires c).After-reserve_given-one) (zone_room c.args.kept.now.bounded.standing l.i c.from-zone.result (omega arith) (zone-is (goal.at.amounts_sum-requires c).After-from-zone) _)

pub bounds-zones-zone-in-loop-i : goal.bounds-zones-zone-in-loop-i
bounds-zones-zone-in-loop-i c = zone_below c.args.kept.now.bounded.standing c.loop-i.i _ (omega arith) (zone-is (goal.at.bounds-zones-zone-in-loop-i c).After-from-zone)

pub loop-i-preserved : goal.loop-i-preserved
loop-i-preserved c =
    let l = c.loop-i in (
      c.amounts_sum-market.ensures ∙ rw (l.invariant.0, own_is (goal.at.loop-i-preserved c).After-reserve_given-one) (sums_more (λ k. reserve_of (the_case c.args.kept.now.bounded.priced) (the_amounts c.args.kept.now.bounded.priced) k) l.i),
      rw (c.amounts_sum.ensures, l.invariant.1, own_is (goal.at.loop-i-preserved c).After-reserve_given-one) (zones_more c.args.kept.now.bounded.standing l.i c.from-zone.result (omega arith) (zone-is (goal.at.loop-i-preserved c).After-from-zone) _),
    )

pub overflow_sub-zone : goal.overflow_sub-zone
overflow_sub-zone c = own_zone_from_one c.args.kept.now.bounded.standing c.loop-i.i _ (omega arith) (zone-is (goal.at.overflow_sub-zone c).After-from-zone)
