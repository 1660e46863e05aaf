-- The records of a case whose figures are in range are in range themselves.
use mathlib.Core.Path.{◌≡◌, refl}
use mathlib.Core.List.{List}
use Prim.Native.Nat.{ℕ, zero, suc, ◌<◌, ◌≤◌}
use native.Mathlib.Omega.{arith}
use lib.IntN.{pos}
use Rattle.market.specs.Case.{Case, Resource}
use Rattle.market.specs.declared.Curve.{Curve}
use Rattle.market.specs.declared.Curve.TheVariants.{Operating as operating, RegulatingPlusSpinning as regulating_plus_spinning, Regulating as regulating, ShortTerm as short_term}
use Rattle.market.specs.declared.Reserve.{Reserve}
use Rattle.market.specs.CaseFile.{case_of}
use Rattle.market.specs.Records.{offer_step_of, offer_steps_of, curve_step_of, curve_steps_of, state_of, output_limits_of, ramps_of, other_powers_of, reserve_offers_of, record_of, reserve_terms_of, zone_requirements_of}
use Rattle.market.specs.Outcome.{Valid}
use Rattle.market.proofs.Absent.{width_to, curve_price_to, requirement_to}
use Rattle.market.proofs.Ranges.{ResourceRanges, ReserveRanges, valid_ranges}
use Rattle.case_records.specs.Ranged.{UpTo, offer_step, curve_step, RangedLimits, RangedRamps, RangedOtherPowers, RangedOffers, RangedSteps, Ranged, RangedTerms, RangedCurve, RangedZone}

up_to : {n most : ℕ} → n ≤ most → UpTo (pos n) most
up_to h = record { natural = refl; at_most = h }

-- ---- steps by their number
pub offer_step_is : (s : Resource) (j : ℕ) → j < 10 → offer_step (offer_steps_of s) j ≡ offer_step_of s j
unfolding offer_steps_of
offer_step_is s zero h = refl
offer_step_is s (suc zero) h = refl
offer_step_is s (suc (suc zero)) h = refl
offer_step_is s (suc (suc (suc zero))) h = refl
offer_step_is s (suc (suc (suc (suc zero)))) h = refl
offer_step_is s (suc (suc (suc (suc (suc zero))))) h = refl
offer_step_is s (suc (suc (suc (suc (suc (suc zero)))))) h = refl
offer_step_is s (suc (suc (suc (suc (suc (suc (suc zero))))))) h = refl
offer_step_is s (suc (suc (suc (suc (suc (suc (suc (suc zero)))))))) h = refl
offer_step_is s (suc (suc (suc (suc (suc (suc (suc (suc (suc zero))))))))) h = refl
offer_step_is s (suc (suc (suc (suc (suc (suc (suc (suc (suc (suc j)))))))))) h = absurd (omega arith)

pub curve_step_is : (c : Case) (k : Curve) (j : ℕ) → j < 4 → curve_step (curve_steps_of c k) j ≡ curve_step_of c k j
unfolding curve_steps_of
curve_step_is c k zero h = refl
curve_step_is c k (suc zero) h = refl
curve_step_is c k (suc (suc zero)) h = refl
curve_step_is c k (suc (suc (suc zero))) h = refl
curve_step_is c k (suc (suc (suc (suc j)))) h = absurd (omega arith)

-- ---- a resource
limits_ranged : {zones : ℕ} {s : Resource} → ResourceRanges zones s → RangedLimits (output_limits_of s)
unfolding output_limits_of
limits_ranged h =
    record {
      economic_min = up_to h.economic_min;
      economic_max = up_to h.economic_max;
      regulating_min = up_to h.regulating_min;
      regulating_max = up_to h.regulating_max;
      emergency_min = up_to h.emergency_min;
      emergency_max = up_to h.emergency_max;
    }

ramps_ranged : {zones : ℕ} {s : Resource} → ResourceRanges zones s → RangedRamps (ramps_of s)
unfolding ramps_of
ramps_ranged h = record { up = up_to h.ramp_up; down = up_to h.ramp_down; rate = up_to h.ramp_rate }

other_powers_ranged : {zones : ℕ} {s : Resource} → ResourceRanges zones s → RangedOtherPowers (other_powers_of s)
unfolding other_powers_of
other_powers_ranged h =
    record {
      initial = up_to h.initial_to;
      off_line_response = up_to h.off_line_response;
      off_line_short_term = up_to h.off_line_short_term;
      self_schedule = up_to h.self_schedule;
    }

offers_ranged : {zones : ℕ} {s : Resource} → ResourceRanges zones s → RangedOffers (reserve_offers_of s)
unfolding reserve_offers_of
offers_ranged h =
    record {
      regulating = up_to h.regulating_price;
      contingency = up_to h.contingency_price;
      off_line_short_term = up_to h.off_line_short_term_price;
    }

steps_ranged : {zones : ℕ} {s : Resource} → ResourceRanges zones s → RangedSteps (offer_steps_of s)
unfolding offer_step_of
steps_ranged {zones} {s} h =
    record {
      width = λ j l. rw (offer_step_is s j l) (up_to (h.step_width j l));
      price = λ j l. rw (offer_step_is s j l) (h.step_price j l).le;
    }

pub resource_ranged : {zones : ℕ} {s : Resource} → ResourceRanges zones s → Ranged (record_of s)
unfolding record_of state_of
resource_ranged h =
    record {
      output = h.output_size.le;
      limits = limits_ranged h;
      ramps = ramps_ranged h;
      other_powers = other_powers_ranged h;
      offers = offers_ranged h;
    }

-- ---- the rest of a case
pub terms_ranged : {c : Case} {p : Reserve} → ReserveRanges c p → RangedTerms (reserve_terms_of c p)
unfolding reserve_terms_of
terms_ranged h =
    record {
      multiplier_from = h.multiplier_from;
      multiplier_to = h.multiplier_to;
      minutes_from = h.minutes_from;
      minutes_to = h.minutes_to;
      share_to = h.share_to;
      requirement = up_to h.requirement_to;
    }

-- ---- of the bytes of a valid case
module _ (b : List ℕ) (v : Valid b) where
  pub valid_resource : (i : ℕ) → i < (case_of b).resources → Ranged (record_of ((case_of b).resource i))
  valid_resource i l = resource_ranged ((valid_ranges b v).resource i l)

  pub valid_steps : (i : ℕ) → i < (case_of b).resources → RangedSteps (offer_steps_of ((case_of b).resource i))
  valid_steps i l = steps_ranged ((valid_ranges b v).resource i l)

  pub valid_terms : (p : Reserve) → RangedTerms (reserve_terms_of (case_of b) p)
  valid_terms p = terms_ranged ((valid_ranges b v).reserve p)

  pub valid_curve : (k : Curve) → RangedCurve (curve_steps_of (case_of b) k)
  unfolding curve_step_of
  valid_curve k =
      record {
        width = λ j l. rw (curve_step_is (case_of b) k j l) (up_to (width_to b v k j l));
        price = λ j l. rw (curve_step_is (case_of b) k j l) (up_to (curve_price_to b v k j l));
      }

  pub valid_zone : (z : ℕ) → z < (case_of b).zones → RangedZone (zone_requirements_of (case_of b) z)
  unfolding zone_requirements_of
  valid_zone z l =
      record {
        operating = up_to (requirement_to b v z l operating);
        regulating_plus_spinning = up_to (requirement_to b v z l regulating_plus_spinning);
        regulating = up_to (requirement_to b v z l regulating);
        short_term = up_to (requirement_to b v z l short_term);
      }
