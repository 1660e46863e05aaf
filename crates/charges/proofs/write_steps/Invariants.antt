use mathlib.Core.Bool.{true}
use lib.IntN.{nat_abs}
use Rattle.case_records.specs.Ranged.{offer_step}
use Rattle.charges.specs.Terms.{energy_charge}
use Rattle.charges.proofs.StepCharges.{Charged}
use Rattle.charges.proofs.write_steps.Given as goal

abbrev pub invariant-loop-j : goal.invariant-loop-j
invariant-loop-j l = Charged (offer_step l.fn.offer.steps) (energy_charge l.nets.prices true l.fn.offer.steps (nat_abs l.fn.energy.0)) (nat_abs l.fn.energy.0) l.fn.out l.out l.left l.j
