use Prim.Native.Nat.{◌*◌}
use Rattle.arith.specs.Sums.{sum_of, upto}
use Rattle.costs.specs.Worth.{resource_worth}
use Rattle.bounds.specs.Sizes.{most_resource_terms}
use Rattle.bounds.specs.Terms.{resource_terms}
use Rattle.valuations.specs.Values.{Valued}
use Rattle.prices.specs.PricedCase.{the_case, the_amounts, case_bytes, certificate_bytes}
use Rattle.valuations.proofs.sum_values.Given as goal

abbrev pub invariant-loop-i : goal.invariant-loop-i
invariant-loop-i l =
    Valued (record { worth = l.worth; least = l.least }) (sum_of (resource_worth (the_case l.kept.bounded.priced) (the_amounts l.kept.bounded.priced)) (upto l.i)) (sum_of (resource_terms (case_bytes l.kept.bounded.priced) (certificate_bytes l.kept.bounded.priced)) (upto l.i)) (l.i * most_resource_terms)
