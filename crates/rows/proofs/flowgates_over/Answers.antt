use Rattle.prices.proofs.SameCounts.{same_resources}
use Rattle.std.proofs.Common.{refl, sym, ◌≡◌, ◌+◌, ◌*◌, arith}
use Rattle.case_records.proofs.Places.{flowgates_is}
use Rattle.prices.proofs.Known.{flowgate_below}
use Rattle.flows.proofs.Parts.{energy_bounded}
use Rattle.units.proofs.Search.{search_none, search_more, search_stop}
use Rattle.rows.specs.Tests.{first_flowgate_row}
use Rattle.rows.proofs.Known.{flowgate_blocks}
use Rattle.prices.specs.PricedCase.{the_case}
use Rattle.rows.proofs.flowgates_over.Goals as goal

pub write_energies-requires : goal.write_energies-requires
write_energies-requires c = record { bounded = rw (same_resources c.args.bounded.now.priced) (energy_bounded c.args.bounded.now.standing); r_in_bounds = c.args.bounded.now.priced.certificate.whole.counts.most_resources }

pub loop-g-init : goal.loop-g-init
loop-g-init c = search_none _ _ _ 1 (λ i. refl) _

pub returns-in-Some : goal.returns-in-Some
returns-in-Some c =
    let s = first_flowgate_row (the_case c.args.bounded.now.priced).version c.args.bounded.now.priced.case.zones in
    let e : s + c.loop-g.g * 1 ≡ s + c.loop-g.g = omega arith in
    rw flowgate_blocks at (search_stop _ _ _ 1 (λ i. refl) _ c.loop-g.g c.loop-g.invariant c.flowgate_over.result (rw (c.new-energies.ensures.bounded, ← e) at c.flowgate_over.ensures) _ c.in-Some.row (flowgate_below c.args.bounded.now.standing.prices (omega arith)) cc)

pub loop-g-preserved : goal.loop-g-preserved
loop-g-preserved c =
    let s = first_flowgate_row (the_case c.args.bounded.now.priced).version c.args.bounded.now.priced.case.zones in
    let e : s + c.loop-g.g * 1 ≡ s + c.loop-g.g = omega arith in
    search_more _ _ _ 1 (λ i. refl) _ c.loop-g.g c.loop-g.invariant c.flowgate_over.result (rw (c.new-energies.ensures.bounded, ← e) at c.flowgate_over.ensures) cc

pub returns : goal.returns
returns c =
    let e : c.loop-g.g ≡ (the_case c.args.bounded.now.priced).flowgates = omega (arith, flowgates_is c.args.bounded.now.standing.prices.case_bytes) in
    sym (rw (e, flowgate_blocks) at c.loop-g.invariant)
