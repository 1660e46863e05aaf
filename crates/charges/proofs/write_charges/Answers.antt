use mathlib.Core.Path.{refl, ◌∙◌}
use mathlib.Core.List.{map}
use native.Mathlib.Omega.{arith}
use Rattle.market.specs.CaseFile.{case_of}
use Rattle.market.specs.Certificate.{certificate_of}
use Rattle.market.specs.Charges.{row_charge}
use Rattle.market.specs.Cost.{priced, priced_count_of}
use Rattle.market.specs.Rows.{rows, row_count_of}
use Rattle.arith.proofs.Buffers.{write_on}
use Rattle.charges.specs.Terms.{charge_in}
use Rattle.charges.proofs.Known.{rows_counted, charges_listed}
use Rattle.prices.specs.PricedCase.{case_bytes, certificate_bytes}
use Rattle.charges.proofs.write_charges.Goals as goal

pub returns : goal.returns
returns c =
    let b = (case_bytes c.args.kept.now.bounded.priced) in
    let q = (certificate_bytes c.args.kept.now.bounded.priced) in
    let o = c.args.out.now in
    let at = row_count_of (case_of b).version c.args.kept.now.bounded.priced.case.resources c.args.kept.now.bounded.priced.case.zones c.args.kept.now.bounded.priced.case.flowgates in
    rw c.row_count-at.ensures
    (write_on (map (row_charge (case_of b) (certificate_of q).amount (certificate_of q).price) (rows (case_of b))) (map (charge_in b q) (priced (case_of b))) o c.write_row_charges.new.out c.write_priced_charges.new.out at (priced_count_of (case_of b).version c.args.kept.now.bounded.priced.case.resources) at (rows_counted c.args.kept.now.bounded.standing) refl (omega arith) c.write_row_charges.ensures (rw c.row_count-at.ensures at c.write_priced_charges.ensures)
    ∙ charges_listed c.args.kept.now.bounded.standing o)
