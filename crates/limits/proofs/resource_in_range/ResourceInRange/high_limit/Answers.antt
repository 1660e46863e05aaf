use mathlib.Core.Path.{ap, ◌∙◌}
use native.Mathlib.Nat.{mul_comm}
use Rattle.market.specs.Limits.{hi_of}
use Rattle.market.specs.Records.{kw, power, record_of, ramps_of, other_powers_of}
use Rattle.market.specs.declared.Kw.{Kw}
use Rattle.market.specs.declared.Resource.{Resource}
use lib.IntN.{pos, ◌+ℤ◌}
use Rattle.limits.proofs.resource_in_range.ResourceInRange.high_limit.Goals as goal

pub returns : goal.returns
unfolding hi_of record_of ramps_of other_powers_of
returns c = λ s o e. rw (← o, c.if-not-on.false)
    (c.sum.ensures
    ∙ ap (λ (r : Resource). kw (r.other_powers.initial.0 +ℤ c.ramped-climb.result.0)) e
    ∙ ap (λ (x : Kw). kw (pos s.initial +ℤ x.0)) (c.ramped-climb.ensures.0 s.ramp_up (ap (λ (r : Resource). r.ramps.up) e) ∙ ap power (mul_comm s.ramp_up 5)))
