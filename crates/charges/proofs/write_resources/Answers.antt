use mathlib.Core.Path.{◌≡◌, refl}
use Prim.Native.Nat.{◌+◌, ◌*◌, ◌≤◌}
use native.Mathlib.Nat.{mul-le-mul_right}
use native.Mathlib.Omega.{arith}
use Rattle.market.specs.Cost.{resource_priced_count}
use Rattle.arith.proofs.Lists.{across-upto}
use Rattle.arith.specs.Sums.{upto, across}
use Rattle.arith.proofs.Buffers.{write_on}
use Rattle.charges.specs.Terms.{resource_charges}
use Rattle.charges.proofs.Known.{resources_count}
use Rattle.prices.specs.PricedCase.{the_case, case_bytes, certificate_bytes}
use Rattle.charges.proofs.write_resources.Goals as goal

pub loop-i-preserved : goal.loop-i-preserved
loop-i-preserved c =
    let k = c.loop-i in
    let own = resource_priced_count (the_case c.args.kept.now.bounded.priced).version in
    let at = k.i * own in
    let g = resource_charges (case_bytes c.args.kept.now.bounded.priced) (certificate_bytes c.args.kept.now.bounded.priced) in
    let e : at + own ≡ (k.i + 1) * own = omega arith in
    let last : k.i + 1 ≤ c.args.kept.now.bounded.priced.case.resources = omega arith in
    rw (c.resource_count-own.ensures, across-upto g k.i, ← e)
    (write_on (across g (upto k.i)) (g k.i) c.args.out.now k.out c.write_resource.new.out at own at (resources_count (case_bytes c.args.kept.now.bounded.priced) (certificate_bytes c.args.kept.now.bounded.priced) k.i) refl (omega (arith, c.requires.room, mul-le-mul_right own last)) k.invariant (rw c.resource_count-own.ensures at c.write_resource.ensures))
