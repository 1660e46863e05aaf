use lib.IntN.{nat_abs}
use Rattle.case_records.specs.Ranged.{curve_step}
use Rattle.charges.specs.Terms.{curve_charge}
use Rattle.charges.proofs.StepCharges.{Charged}
use Rattle.charges.proofs.write_curve.Given as goal

abbrev pub invariant-loop-j : goal.invariant-loop-j
invariant-loop-j l = Charged (curve_step l.fn.curve.steps) (curve_charge l.price l.fn.curve.steps (nat_abs l.fn.cleared.0)) (nat_abs l.fn.cleared.0) l.fn.out l.out l.left l.j
