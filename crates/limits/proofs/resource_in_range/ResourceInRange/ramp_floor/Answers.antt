use mathlib.Core.Path.{ap, ◌∙◌}
use native.Mathlib.Nat.{mul_comm}
use Prim.Native.Nat.{◌*◌}
use Rattle.market.specs.Records.{power, record_of, ramps_of, other_powers_of}
use Rattle.market.specs.declared.Resource.{Resource}
use Rattle.limits.proofs.resource_in_range.ResourceInRange.ramp_floor.Goals as goal

pub returns : goal.returns
unfolding record_of ramps_of other_powers_of
returns c = λ s e. c.less.ensures s.initial (5 * s.ramp_down) (ap (λ (r : Resource). r.other_powers.initial) e)
    (c.ramped-fall.ensures.0 s.ramp_down (ap (λ (r : Resource). r.ramps.down) e) ∙ ap power (mul_comm s.ramp_down 5))
