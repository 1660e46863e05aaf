-- MAX, MIN, HI and LO of a resource (01, 'Before the rows'; 02, request 6). All but MAX are integers: those of a battery plant can be
-- negative (02, request 10).
use Rattle.std.specs.Prelude.{cond, ℕ, ◌+◌, ◌*◌, ◌-◌, ℤ, pos}
use Rattle.arith.specs.Sums.{min_ℤ, max_ℤ}
use Rattle.market.specs.Bits.{regulating_flag, emergency_maximum_flag, emergency_minimum_flag, self_scheduled_flag}
use Rattle.market.specs.Case.{Resource}
use Rattle.market.specs.Availability.{on_line}

unfoldable pub max_of : Resource → ℕ
max_of r =
    cond (on_line r)
    (cond (emergency_maximum_flag r.flags) r.emergency_max (cond (regulating_flag r.flags) r.regulating_max r.economic_max))
    r.economic_max

unfoldable pub min_of : Resource → ℤ
min_of r =
    cond (on_line r)
    (pos (cond (emergency_minimum_flag r.flags) r.emergency_min (cond (regulating_flag r.flags) r.regulating_min r.economic_min)))
    (pos 0)

unfoldable pub hi_of : Resource → ℤ
hi_of r = cond (on_line r) (pos (r.initial + 5 * r.ramp_up)) (pos r.economic_max)

-- what five minutes of ramp leave; a difference of natural numbers is at least 0
abbrev pub ramp_floor : Resource → ℤ
ramp_floor r = pos (r.initial - 5 * r.ramp_down)

-- a self-schedule yields where the ramp or the limit does not reach it (02, request 6)
abbrev pub self_schedule_in_reach : Resource → ℤ
self_schedule_in_reach r = min_ℤ (hi_of r) (min_ℤ (pos (max_of r)) (pos r.self_schedule))

unfoldable pub lo_of : Resource → ℤ
lo_of r = cond (on_line r) (cond (self_scheduled_flag r.flags) (max_ℤ (ramp_floor r) (self_schedule_in_reach r)) (ramp_floor r)) (pos 0)
