use Rattle.std.proofs.Common.{refl, sym, ◌≡◌, arith}
use Rattle.market.specs.Rows.{resource_row_count}
use Rattle.case_records.proofs.Places.{resources_is}
use Rattle.prices.proofs.Known.{resource_below}
use Rattle.units.proofs.Search.{search_none, search_more, search_stop}
use Rattle.prices.specs.PricedCase.{the_case}
use Rattle.rows.proofs.resources_outside.Goals as goal

pub loop-i-init : goal.loop-i-init
loop-i-init c = search_none _ _ _ (resource_row_count (the_case c.args.kept.now.bounded.priced).version) (λ i. refl) _

pub returns-in-Some : goal.returns-in-Some
returns-in-Some c = search_stop _ _ _ (resource_row_count (the_case c.args.kept.now.bounded.priced).version) (λ i. refl) _ c.loop-i.i c.loop-i.invariant c.resource_outside.result c.resource_outside.ensures _ c.in-Some.row (resource_below c.args.kept.now.bounded.standing.prices (omega arith)) cc

pub loop-i-preserved : goal.loop-i-preserved
loop-i-preserved c = search_more _ _ _ (resource_row_count (the_case c.args.kept.now.bounded.priced).version) (λ i. refl) _ c.loop-i.i c.loop-i.invariant c.resource_outside.result c.resource_outside.ensures cc

pub returns : goal.returns
returns c =
    let e : c.loop-i.i ≡ (the_case c.args.kept.now.bounded.priced).resources = omega (arith, resources_is c.args.kept.now.bounded.standing.prices.case_bytes) in
    sym (rw e at c.loop-i.invariant)
