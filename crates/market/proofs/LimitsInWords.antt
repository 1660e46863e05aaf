-- MAX, MIN, HI and LO flag by flag; what a self-schedule can do to LO.
use mathlib.Core.Bool.{Bool, true, false, cond}
use mathlib.Core.Logic.{inl, inr}
use mathlib.Core.List.{[], ◌∷◌}
use mathlib.Core.Path.{◌≡◌, refl, ap}
use Prim.Native.Nat.{ℕ, ◌+◌, ◌*◌, ◌≤◌, min, max}
use native.Mathlib.Omega.{arith}
use lib.Dec.{leb→le, le→leb}
use lib.IntN.{pos}
use lib.Signed.{◌≤ℤ◌}
use Rattle.market.specs.Bits.{self_scheduled_flag}
use Rattle.market.specs.Case.{Resource}
use Rattle.market.specs.Availability.{on_line}
use Rattle.market.specs.Limits.{max_of, min_of, hi_of, lo_of, self_schedule_in_reach}
use Rattle.market.specs.AvailabilityInWords.{BitSet, BitClear, OnLine, NotOnLine, OneOf, LeastOf, LeastOfℤ, ramped_down, LimitsInWords}
use Rattle.market.proofs.LeastAndLargest.{least_of_three, difference_to, larger_of_difference, largest_with}
use Rattle.market.proofs.LimitSizes.{most_if}
use Rattle.market.proofs.NaturalLimits.{high_of, floor_of, reach_of, low_of, high_is, reach_is, low_is}

-- by whether it is on-line and flag 32 is set: the ramp's floor is not above what the ramp reaches
raised_to_high : (on scheduled : Bool) (floor reached economic m : ℕ) → floor ≤ reached
    → cond on (cond scheduled (max floor (min (cond on reached economic) m)) floor) 0 ≤ cond on reached economic
raised_to_high true true floor reached economic m h = omega (arith, h)
raised_to_high true false floor reached economic m h = h
raised_to_high false scheduled floor reached economic m h = omega arith

pos-le : {a b : ℕ} → a ≤ b → pos a ≤ℤ pos b
pos-le {a} {b} h = record { le = le→leb a b h }

module _ (r : Resource) where
  reached : OnLine r → BitSet 32 r.flags → low_of r ≡ max (floor_of r) (reach_of r)
  unfolding low_of on_line
  reached e h = rw (e, h)

  low_reached : OnLine r → BitSet 32 r.flags → pos r.self_schedule ≤ℤ hi_of r → r.self_schedule ≤ max_of r → low_of r ≡ max (floor_of r) r.self_schedule
  low_reached e h high most = omega (arith, reached e h, leb→le r.self_schedule (high_of r) (rw (high_is r) at high).le, most)

  low_to_high : lo_of r ≤ℤ hi_of r
  unfolding low_of high_of
  low_to_high =
      rw (low_is r, high_is r)
      (pos-le (raised_to_high (on_line r) (self_scheduled_flag r.flags) (floor_of r) (r.initial + 5 * r.ramp_up) r.economic_max (min (max_of r) r.self_schedule) (omega arith)))

  low_to_max : ramped_down r ≤ℤ pos (max_of r) → lo_of r ≤ℤ pos (max_of r)
  unfolding low_of
  low_to_max h =
      let floor = difference_to (max_of r) r.initial (5 * r.ramp_down) h in
      rw (low_is r) (pos-le (most_if (on_line r) (most_if (self_scheduled_flag r.flags) (omega (arith, floor)) floor) (omega arith)))

  least_in_reach : LeastOfℤ (hi_of r ∷ pos (max_of r) ∷ pos r.self_schedule ∷ []) (self_schedule_in_reach r)
  least_in_reach = rw (reach_is r, high_is r) (go (least_of_three (reach_of r) (high_of r) (max_of r) r.self_schedule refl))
    where
      one_of : {n a b c : ℕ} → OneOf (a ∷ b ∷ c ∷ []) n → OneOf (pos a ∷ pos b ∷ pos c ∷ []) (pos n)
      one_of (inl e) = inl (ap pos e)
      one_of (inr (inl e)) = inr (inl (ap pos e))
      one_of (inr (inr (inl e))) = inr (inr (inl (ap pos e)))
      one_of (inr (inr (inr e))) = inr (inr (inr e))

      go : {n a b c : ℕ} → LeastOf (a ∷ b ∷ c ∷ []) n → LeastOfℤ (pos a ∷ pos b ∷ pos c ∷ []) (pos n)
      go (all, one) = ((pos-le all.0, (pos-le all.1.0, (pos-le all.1.1.0, tt))), one_of one)

  off_line_limits : NotOnLine r → (max_of r ≡ r.economic_max) × (hi_of r ≡ pos r.economic_max) × (min_of r ≡ pos 0) × (lo_of r ≡ pos 0)
  unfolding max_of min_of hi_of lo_of on_line
  off_line_limits (inl e) = (rw e, rw e, rw e, rw e)
  off_line_limits (inr e) = (rw e, rw e, rw e, rw e)

  on_line_floor : OnLine r → BitClear 32 r.flags → low_of r ≡ floor_of r
  unfolding low_of on_line
  on_line_floor e h = rw (e, h)

  pub limits_in_words : LimitsInWords r
  unfolding max_of min_of hi_of on_line
  limits_in_words =
      record {
        max_emergency = λ e h. rw (e, h);
        max_regulating = λ e h k. rw (e, h, k);
        max_economic = λ e h k. rw (e, h, k);
        min_emergency = λ e h. rw (e, h);
        min_regulating = λ e h k. rw (e, h, k);
        min_economic = λ e h k. rw (e, h, k);
        high_ramped = λ e. rw e;
        low_ramped = λ e h. rw (low_is r) (larger_of_difference (low_of r) r.initial (5 * r.ramp_down) (on_line_floor e h));
        in_reach = least_in_reach;
        low_self_scheduled = λ e h. rw (low_is r, reach_is r) (largest_with (low_of r) r.initial (5 * r.ramp_down) (reach_of r) (reached e h));
        low_in_reach = λ e h high most. rw (low_is r) (largest_with (low_of r) r.initial (5 * r.ramp_down) r.self_schedule (low_reached e h high most));
        low_below_high = low_to_high;
        low_below_max = low_to_max;
        off_line_limits = off_line_limits;
      }
