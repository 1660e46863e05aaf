-- Upper bounds and spin flag by flag, on-line, off-line and tripped.
use mathlib.Core.Bool.{Bool, true, false, ◌||◌}
use mathlib.Core.Logic.{inl, inr}
use mathlib.Core.Path.{◌≡◌, refl}
use Prim.Native.Nat.{ℕ}
use Rattle.market.specs.Case.{Case, Resource, Reserve, contingency_reserve}
use Rattle.market.specs.Availability.{on_line}
use Rattle.market.specs.Limits.{max_of}
use Rattle.market.specs.UpperBounds.{contingency, ramp_of, share_of, on_line_bound, bound_when, service_bound, upper_bound}
use Rattle.market.specs.Rows.{none, one, spins}
use Rattle.market.specs.Cost.{priced_upper_bound}
use Rattle.market.specs.AvailabilityInWords.{BitSet, OnLine, Tripped, NotOnLine, LeastOnLine, BoundsInWords, SpinInWords, SellsNothing}
use Rattle.market.proofs.LeastAndLargest.{least_of_two, least_of_three}

or_true : (t : Bool) → (t || true) ≡ true
or_true true = refl
or_true false = refl

least_on_line : (c : Case) (p : Reserve) (r : Resource) (n : ℕ) → n ≡ on_line_bound c p r → LeastOnLine c p r n
unfolding on_line_bound
least_on_line c p r n e = least_of_three n (ramp_of c p r) (share_of c p) (max_of r) e

supplemental : (c : Case) (r : Resource) → OnLine r → BitSet 8 r.status → service_bound c r contingency ≡ on_line_bound c contingency_reserve r
unfolding service_bound bound_when
supplemental c r e h = rw (e, h, or_true)

pub bounds_in_words : (c : Case) (r : Resource) → BoundsInWords c r
unfolding service_bound bound_when
bounds_in_words c r =
    record {
      e_on_line = λ e. rw e;
      g_flagged = λ e h. least_on_line c _ r _ (rw (e, h));
      g_clear = λ e h. rw (e, h);
      c_spinning = λ e h. least_on_line c _ r _ (rw (e, h));
      c_supplemental = λ e h. least_on_line c _ r _ (supplemental c r e h);
      c_clear = λ e h k. rw (e, h, k);
      s_flagged = λ e h. least_on_line c _ r _ (rw (e, h));
      s_clear = λ e h. rw (e, h);
      o_on_line = λ e. rw e;
      e_g_s_off_line = λ e. (rw e, rw e, rw e);
      c_off_line = λ e h. least_of_three _ r.economic_max r.off_line_response (share_of c contingency_reserve) (rw (e, h));
      c_off_line_clear = λ e h. rw (e, h);
      o_off_line = λ e h. least_of_two _ r.economic_max r.off_line_short_term (rw (e, h));
      o_off_line_clear = λ e h. rw (e, h);
      tripped = λ e s. rw e;
    }

no_spin : (r : Resource) → NotOnLine r → spins r ≡ none
unfolding spins on_line
no_spin r (inl e) = rw e
no_spin r (inr e) = rw e

pub spin_in_words : (r : Resource) → SpinInWords r
unfolding spins on_line none one
spin_in_words r = record { spin_flagged = λ e h. rw (e, h); spin_clear = λ e h. rw (e, h); spin_off_line = no_spin r }

pub sells_nothing : (c : Case) (i : ℕ) → Tripped (c.resource i) → SellsNothing c i
unfolding upper_bound priced_upper_bound service_bound bound_when on_line
sells_nothing c i e = record { quantity = λ s. rw e; energy_step = λ j. rw e; whole = λ s. rw e }
