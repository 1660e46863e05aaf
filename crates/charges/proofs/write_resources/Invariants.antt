use mathlib.Core.Path.{◌≡◌}
use mathlib.Core.List.{◌++◌}
use Prim.Native.Nat.{◌*◌}
use lib.ListN.{drop}
use Rattle.market.specs.Cost.{resource_priced_count}
use Rattle.arith.specs.Sums.{upto, across}
use Rattle.charges.specs.Terms.{resource_charges}
use Rattle.prices.specs.PricedCase.{the_case, case_bytes, certificate_bytes}
use Rattle.charges.proofs.write_resources.Given as goal

abbrev pub invariant-loop-i : goal.invariant-loop-i
invariant-loop-i l = l.out ≡ across (resource_charges (case_bytes l.kept.bounded.priced) (certificate_bytes l.kept.bounded.priced)) (upto l.i) ++ drop (l.i * resource_priced_count (the_case l.kept.bounded.priced).version) l.fn.out
