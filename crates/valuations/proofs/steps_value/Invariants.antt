use Prim.Native.Nat.{◌*◌}
use lib.IntN.{nat_abs}
use mathlib.Core.Bool.{true}
use Rattle.arith.specs.Sums.{sum_of, upto}
use Rattle.market.specs.UpperBounds.{energy}
use Rattle.market.specs.Sizes.{most_service_net}
use Rattle.case_records.specs.Ranged.{offer_step}
use Rattle.costs.proofs.FillingLoop.{StepsFilled}
use Rattle.units.specs.Sized.{Sized}
use Rattle.bounds.specs.Sizes.{steps_width}
use Rattle.bounds.specs.Terms.{step_least}
use Rattle.valuations.proofs.steps_value.Given as goal

abbrev pub invariant-loop-step : goal.invariant-loop-step
invariant-loop-step l =
    record {
      filled : StepsFilled (offer_step l.fn.offer.steps) (nat_abs l.fn.energy.0) 10 l.step-index l.left l.worth;
      least : Sized l.least.0 (sum_of (λ k. step_least l.nets.prices true (offer_step l.fn.offer.steps k)) (upto l.step-index)) (most_service_net energy * steps_width l.fn.offer.steps l.step-index);
    }
