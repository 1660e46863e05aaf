use lib.IntN.{nat_abs}
use Rattle.case_records.specs.Ranged.{curve_step}
use Rattle.costs.proofs.FillingLoop.{StepsFilled}
use Rattle.costs.proofs.curve_value.Given as goal

abbrev pub invariant-loop-step : goal.invariant-loop-step
invariant-loop-step l = StepsFilled (curve_step l.fn.curve.steps) (nat_abs l.initial.left.0) 4 l.step-index l.left l.value
