use Prim.Native.Nat.{◌*◌}
use Rattle.arith.specs.Sums.{sum_of, upto}
use Rattle.units.specs.Sized.{Sized}
use Rattle.bounds.specs.Sizes.{most_flowgate_term}
use Rattle.bounds.specs.Terms.{flowgate_term}
use Rattle.prices.specs.PricedCase.{case_bytes, certificate_bytes}
use Rattle.bounds.proofs.flowgates_sum.Given as goal

abbrev pub invariant-loop-flowgate : goal.invariant-loop-flowgate
invariant-loop-flowgate l = Sized l.sum.0 (sum_of (flowgate_term (case_bytes l.priced) (certificate_bytes l.priced)) (upto l.flowgate)) (l.flowgate * most_flowgate_term)
