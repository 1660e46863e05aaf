use Prim.Native.Nat.{◌*◌}
use Rattle.arith.specs.Sums.{sum_of, upto}
use Rattle.case_records.specs.Ranged.{curve_step}
use Rattle.units.specs.Sized.{Sized}
use Rattle.bounds.specs.Sizes.{most_curve_step_term}
use Rattle.bounds.specs.Terms.{curve_step_least}
use Rattle.bounds.proofs.curve_least.Given as goal

abbrev pub invariant-loop-step : goal.invariant-loop-step
invariant-loop-step l = Sized l.sum.0 (sum_of (λ k. curve_step_least l.price (curve_step l.fn.curve.steps k)) (upto l.step-index)) (l.step-index * most_curve_step_term)
