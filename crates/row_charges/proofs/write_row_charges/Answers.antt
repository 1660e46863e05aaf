use mathlib.Core.List.{List, ◌∷◌, ◌++◌, map}
use lib.IntN.{ℤ}
use Rattle.prices.specs.declared.bounded_case.BoundedCase.{BoundedCase}
use mathlib.Core.Path.{◌≡◌, refl, subst, ◌∙◌}
use Prim.Native.Nat.{◌+◌, ◌*◌, ◌-◌}
use native.Mathlib.Omega.{arith}
use lib.ListN.{length, take, drop}
use borrow.Rule.Slice.PartMut.{put_mid}
use Rattle.market.specs.Rows.{balance_row, market_rows, zone_rows, flowgate_rows, limit_rows, system_row_count, zone_row_count, resource_row_count}
use Rattle.case_records.proofs.Places.{zones_is}
use Rattle.arith.proofs.Buffers.{write_on}
use Rattle.row_charges.specs.Families.{row_charge_in}
use Rattle.row_charges.proofs.Written.{system_count, zone_count, all_written}
use Rattle.row_charges.proofs.write_row_charges.Goals as goal
use Rattle.row_charges.proofs.write_row_charges.Goals.{After-out-2-1}
use Rattle.prices.specs.PricedCase.{the_case, case_bytes, certificate_bytes}

-- what the first two writings leave
abbrev SystemOf : BoundedCase → List ℤ → List ℤ → Type 0
SystemOf bounded o out =
    out ≡ map (row_charge_in (case_bytes bounded.priced) (certificate_bytes bounded.priced)) (balance_row ∷ market_rows (the_case bounded.priced)) ++ drop (system_row_count (the_case bounded.priced).version) o

abbrev ZonesOf : BoundedCase → List ℤ → List ℤ → Type 0
ZonesOf bounded o out =
    out ≡ map (row_charge_in (case_bytes bounded.priced) (certificate_bytes bounded.priced)) (zone_rows (the_case bounded.priced)) ++ drop (bounded.priced.case.zones * zone_row_count) o

zones-written : (c : After-out-2-1) →
    let cs = the_case c.args.kept.now.bounded.priced in
    let h = row_charge_in (case_bytes c.args.kept.now.bounded.priced) (certificate_bytes c.args.kept.now.bounded.priced) in
    let first = c.write_system.new.out in
    put_mid (system_row_count cs.version) (length first - system_row_count cs.version) first c.write_zones.new.out
    ≡ (map h (balance_row ∷ market_rows cs) ++ map h (zone_rows cs)) ++ drop (system_row_count cs.version + c.args.kept.now.bounded.priced.case.zones * zone_row_count) c.args.out.now
zones-written c =
    let cs = the_case c.args.kept.now.bounded.priced in
    let h = row_charge_in (case_bytes c.args.kept.now.bounded.priced) (certificate_bytes c.args.kept.now.bounded.priced) in
    let first = c.write_system.new.out in
    let n = c.system_rows-first.result in
    write_on (map h (balance_row ∷ market_rows cs)) (map h (zone_rows cs)) c.args.out.now c.write_system.new.out c.write_zones.new.out
    (system_row_count cs.version) (c.args.kept.now.bounded.priced.case.zones * zone_row_count) (system_row_count cs.version) (system_count h cs) refl (omega arith) (subst (λ (bounded : BoundedCase). SystemOf bounded c.args.out.now first) c.totals-have.ensures c.write_system.ensures)
    (rw (c.system_rows-first.ensures, c.version.ensures) at (subst (λ (bounded : BoundedCase). ZonesOf bounded (take (length first - n) (drop n first)) c.write_zones.new.out) c.totals-have.ensures c.write_zones.ensures))

pub returns : goal.returns
returns c =
    let cs = the_case c.args.kept.now.bounded.priced in
    let h = row_charge_in (case_bytes c.args.kept.now.bounded.priced) (certificate_bytes c.args.kept.now.bounded.priced) in
    let first = c.write_system.new.out in
    let out = put_mid (system_row_count cs.version) (length first - system_row_count cs.version) first c.write_zones.new.out in
    rw (c.system_rows-first.ensures, c.version.ensures)
    (write_on (map h (balance_row ∷ market_rows cs) ++ map h (zone_rows cs)) (map h (flowgate_rows cs ++ limit_rows cs)) c.args.out.now out c.write_network.new.out
    (system_row_count cs.version + c.args.kept.now.bounded.priced.case.zones * zone_row_count) (c.args.kept.now.bounded.priced.case.flowgates + c.args.kept.now.bounded.priced.case.resources * resource_row_count cs.version) (system_row_count cs.version + c.args.kept.now.bounded.priced.case.zones * zone_row_count)
    (zone_count h cs (zones_is c.args.kept.now.bounded.standing.prices.case_bytes)) refl (omega arith) (zones-written (goal.at.returns c).After-out-2-1) (rw (c.system_rows-first.ensures, c.version.ensures) at c.write_network.ensures)
    ∙ all_written h cs c.args.kept.now.bounded.priced.case.zones c.args.kept.now.bounded.priced.case.flowgates c.args.kept.now.bounded.priced.case.resources c.args.out.now)
