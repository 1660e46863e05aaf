use mathlib.Core.List.{map, ◌++◌}
use mathlib.Core.Path.{◌≡◌, refl, ap, ◌∙◌}
use Prim.Native.Nat.{ℕ, ◌*◌}
use native.Mathlib.Omega.{arith}
use lib.ListN.{drop}
use Rattle.arith.specs.Sums.{upto, across}
use Rattle.market.specs.Rows.{limit_row, limits, resource_row_count}
use Rattle.case_records.proofs.Places.{resources_is}
use Rattle.row_charges.specs.Families.{row_charge_in}
use Rattle.row_charges.proofs.Written.{block_written}
use Rattle.prices.specs.PricedCase.{the_case, case_bytes, certificate_bytes}
use Rattle.row_charges.proofs.write_resources.Goals as goal

pub loop-i-preserved : goal.loop-i-preserved
loop-i-preserved c =
    let l = c.loop-i in
    rw c.resource_rows-numbers.ensures
    (block_written (row_charge_in (case_bytes c.args.kept.now.bounded.priced) (certificate_bytes c.args.kept.now.bounded.priced)) (λ k. map (limit_row k) (limits (the_case c.args.kept.now.bounded.priced).version)) (resource_row_count (the_case c.args.kept.now.bounded.priced).version) (λ k. refl) l.i c.args.out.now l.out c.write_resource.new.out (omega arith) l.invariant (rw c.resource_rows-numbers.ensures at c.write_resource.ensures))

pub returns : goal.returns
returns c =
    let l = c.loop-i in
    let cs = the_case c.args.kept.now.bounded.priced in
    let h = row_charge_in (case_bytes c.args.kept.now.bounded.priced) (certificate_bytes c.args.kept.now.bounded.priced) in
    let r = c.args.kept.now.bounded.priced.case.resources in
    let all : l.i ≡ r = omega arith in
    let written : l.out ≡ map h (across (λ k. map (limit_row k) (limits cs.version)) (upto r)) ++ drop (r * resource_row_count cs.version) c.args.out.now = rw all at l.invariant in
    written ∙ ap (λ (n : ℕ). map h (across (λ k. map (limit_row k) (limits cs.version)) (upto n)) ++ drop (r * resource_row_count cs.version) c.args.out.now) (resources_is c.args.kept.now.bounded.priced.case.whole)
