use Prim.Native.Nat.{◌*◌}
use Rattle.arith.specs.Sums.{sum_of, upto}
use Rattle.units.specs.Sized.{Sized}
use Rattle.bounds.specs.Sizes.{most_zone_terms}
use Rattle.bounds.specs.Terms.{zone_terms}
use Rattle.prices.specs.PricedCase.{case_bytes, certificate_bytes}
use Rattle.bounds.proofs.zones_sum.Given as goal

abbrev pub invariant-loop-zone : goal.invariant-loop-zone
invariant-loop-zone l = Sized l.sum.0 (sum_of (zone_terms (case_bytes l.priced) (certificate_bytes l.priced)) (upto l.zone)) (l.zone * most_zone_terms)
