use mathlib.Core.Path.{refl, ap, ◌∙◌}
use mathlib.Core.List.{List, map, ◌++◌}
use Prim.Native.Nat.{◌+◌, ◌*◌}
use native.Mathlib.Omega.{arith}
use lib.ListN.{drop}
use lib.IntN.{ℤ}
use Rattle.arith.specs.Sums.{upto, across}
use Rattle.market.specs.Cost.{curve_priced, resource_priced_count, curve_priced_count}
use Rattle.market.specs.Case.{curves}
use Rattle.arith.proofs.Buffers.{write_on}
use Rattle.prices.proofs.Written.{lmps_written}
use Rattle.charges.specs.Terms.{charge_in, resource_charges}
use Rattle.charges.proofs.Known.{resources_count, all_listed}
use Rattle.prices.specs.PricedCase.{the_case, case_bytes, certificate_bytes}
use Rattle.charges.proofs.write_priced_charges.Goals as goal

pub write_resources-requires-clause-lmps : goal.write_resources-requires-clause-lmps
write_resources-requires-clause-lmps c = lmps_written (case_bytes c.args.kept.now.bounded.priced) (certificate_bytes c.args.kept.now.bounded.priced) c.args.kept.now.bounded.priced.case.resources _ _ c.write_lmps.ensures

pub returns : goal.returns
returns c =
    let b = (case_bytes c.args.kept.now.bounded.priced) in
    let q = (certificate_bytes c.args.kept.now.bounded.priced) in
    let o = c.args.out.now in
    let at = c.args.kept.now.bounded.priced.case.resources * resource_priced_count (the_case c.args.kept.now.bounded.priced).version in
    rw c.resource_count-own.ensures
    (write_on (across (resource_charges b q) (upto c.args.kept.now.bounded.priced.case.resources)) (map (charge_in b q) (across curve_priced (curves (the_case c.args.kept.now.bounded.priced).version))) o c.write_resources.new.out c.write_curves.new.out at (curve_priced_count (the_case c.args.kept.now.bounded.priced).version) at (resources_count b q c.args.kept.now.bounded.priced.case.resources) refl (omega (arith, c.requires)) c.write_resources.ensures (rw c.resource_count-own.ensures at c.write_curves.ensures)
    ∙ ap (λ (l : List ℤ). l ++ drop (at + curve_priced_count (the_case c.args.kept.now.bounded.priced).version) o) (all_listed c.args.kept.now.bounded.standing))
