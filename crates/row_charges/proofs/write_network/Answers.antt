use mathlib.Core.List.{map, map-append}
use Prim.Native.Nat.{◌*◌}
use mathlib.Core.Path.{refl}
use native.Mathlib.Omega.{arith}
use Rattle.market.specs.Rows.{flowgate_rows, limit_rows, resource_row_count}
use Rattle.case_records.proofs.Places.{flowgates_is}
use Rattle.arith.proofs.Buffers.{write_on}
use Rattle.row_charges.specs.Families.{row_charge_in}
use Rattle.row_charges.proofs.Written.{flowgate_count}
use Rattle.prices.specs.PricedCase.{the_case, case_bytes, certificate_bytes}
use Rattle.row_charges.proofs.write_network.Goals as goal

pub returns : goal.returns
returns c =
    let cs = the_case c.args.kept.now.bounded.priced in
    let h = row_charge_in (case_bytes c.args.kept.now.bounded.priced) (certificate_bytes c.args.kept.now.bounded.priced) in
    rw (map-append h (flowgate_rows cs) (limit_rows cs))
    (write_on (map h (flowgate_rows cs)) (map h (limit_rows cs)) c.args.out.now c.write_flowgates.new.out c.write_resources.new.out c.args.kept.now.bounded.priced.case.flowgates (c.args.kept.now.bounded.priced.case.resources * resource_row_count cs.version) c.args.kept.now.bounded.priced.case.flowgates
    (flowgate_count h cs (flowgates_is c.args.kept.now.bounded.standing.prices.case_bytes)) refl (omega arith) c.write_flowgates.ensures c.write_resources.ensures)
