use Rattle.prices.proofs.SameCounts.{same_resources}
use Rattle.std.proofs.Common.{◌≡◌, arith, rules, w64, to_z, of_z}
use Rattle.std.proofs.lemmas.Int.{to_z-of_z}
use Rattle.market.specs.Rows.{flowgate_row}
use Rattle.flows.proofs.Parts.{energy_bounded}
use Rattle.row_charges.specs.Families.{row_charge_in}
use Rattle.row_charges.proofs.Written.{row_written}
use Rattle.prices.specs.PricedCase.{case_bytes, certificate_bytes}
use Rattle.row_charges.proofs.write_flowgates.Goals as goal

pub write_energies-requires-clause-bounded : goal.write_energies-requires-clause-bounded
write_energies-requires-clause-bounded c = rw (same_resources c.args.bounded.now.priced) (energy_bounded c.args.bounded.now.standing)

pub loop-g-preserved : goal.loop-g-preserved
loop-g-preserved c =
    let l = c.loop-g in
    let value = c.flowgate_charge-value.result.0 in
    let e : to_z w64 (of_z w64 value) ≡ value = search (rules, to_z-of_z) in
    rw (e, c.flowgate_charge-value.ensures, c.new-energies.ensures.bounded) (row_written (row_charge_in (case_bytes c.args.bounded.now.priced) (certificate_bytes c.args.bounded.now.priced)) flowgate_row l.g c.args.out.now l.out (omega arith) l.invariant)
