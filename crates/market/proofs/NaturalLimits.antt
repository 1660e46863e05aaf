-- MIN, HI and LO of every resource that a version has today are natural numbers: those of a battery plant will not be.
use mathlib.Core.Bool.{Bool, true, false, cond}
use mathlib.Core.Path.{◌≡◌, refl}
use Prim.Native.Nat.{ℕ, ◌+◌, ◌*◌, ◌-◌, min, max}
use lib.IntN.{pos}
use Rattle.arith.proofs.Order.{min-pos, max-pos}
use Rattle.market.specs.Bits.{regulating_flag, emergency_minimum_flag, self_scheduled_flag}
use Rattle.market.specs.Case.{Resource}
use Rattle.market.specs.Availability.{on_line}
use Rattle.market.specs.Limits.{max_of, min_of, hi_of, lo_of, self_schedule_in_reach}

unfoldable pub minimum_of : Resource → ℕ
minimum_of r = cond (on_line r) (cond (emergency_minimum_flag r.flags) r.emergency_min (cond (regulating_flag r.flags) r.regulating_min r.economic_min)) 0

unfoldable pub high_of : Resource → ℕ
high_of r = cond (on_line r) (r.initial + 5 * r.ramp_up) r.economic_max

abbrev pub floor_of : Resource → ℕ
floor_of r = r.initial - 5 * r.ramp_down

abbrev pub reach_of : Resource → ℕ
reach_of r = min (high_of r) (min (max_of r) r.self_schedule)

unfoldable pub low_of : Resource → ℕ
low_of r = cond (on_line r) (cond (self_scheduled_flag r.flags) (max (floor_of r) (reach_of r)) (floor_of r)) 0

pos-if : (t : Bool) (a b : ℕ) → cond t (pos a) (pos b) ≡ pos (cond t a b)
pos-if true a b = refl
pos-if false a b = refl

pub minimum_is : (r : Resource) → min_of r ≡ pos (minimum_of r)
unfolding min_of minimum_of
minimum_is r = pos-if (on_line r) _ _

pub high_is : (r : Resource) → hi_of r ≡ pos (high_of r)
unfolding hi_of high_of
high_is r = pos-if (on_line r) _ _

pub reach_is : (r : Resource) → self_schedule_in_reach r ≡ pos (reach_of r)
reach_is r = rw (high_is r, min-pos (max_of r) r.self_schedule) (min-pos (high_of r) (min (max_of r) r.self_schedule))

pub low_is : (r : Resource) → lo_of r ≡ pos (low_of r)
unfolding lo_of low_of
low_is r = rw (reach_is r, max-pos (floor_of r) (reach_of r)) (go (on_line r) (self_scheduled_flag r.flags) (max (floor_of r) (reach_of r)) (floor_of r))
  where
    go : (on scheduled : Bool) (a b : ℕ) → cond on (cond scheduled (pos a) (pos b)) (pos 0) ≡ pos (cond on (cond scheduled a b) 0)
    go true true a b = refl
    go true false a b = refl
    go false scheduled a b = refl
