-- Figures together, as records by value: a resource's four limits, and the upper bounds of its four reserves, which ask that the
-- terms of the three are in range (01, 'Before the rows').
use Rattle.market.specs.Case.{Case, Resource}
use Rattle.market.specs.Limits.{max_of, min_of, hi_of, lo_of}
use Rattle.market.specs.UpperBounds.{bound_when, service_bound, regulation, contingency, on_line_short_term, off_line_short_term}
use Rattle.market.specs.Records.{kw, power}
use Rattle.market.specs.declared.Availability.{Availability}
use Rattle.market.specs.declared.PerReserve.{PerReserve}
use Rattle.market.specs.declared.ReserveTerms.{ReserveTerms}
use Rattle.case_records.specs.Ranged.{RangedTerms}
use Rattle.limits.specs.declared.ResourceLimits.{ResourceLimits}
use Rattle.limits.specs.declared.ReserveBounds.{ReserveBounds}

unfoldable pub limits_of : Resource → ResourceLimits
limits_of r = record { max = power (max_of r); min = kw (min_of r); high = kw (hi_of r); low = kw (lo_of r) }

pub record TermsRanged (terms : PerReserve ReserveTerms) : Type 0 where
  pub regulating : RangedTerms terms.regulating
  pub contingency : RangedTerms terms.contingency
  pub short_term : RangedTerms terms.short_term

-- on-line, off-line or tripped
unfoldable pub reserve_bounds_when : Availability → Case → Resource → ReserveBounds
reserve_bounds_when a c r =
    record {
      regulation = power (bound_when a c r regulation);
      contingency = power (bound_when a c r contingency);
      on_line_short_term = power (bound_when a c r on_line_short_term);
      off_line_short_term = power (bound_when a c r off_line_short_term);
    }

unfoldable pub reserve_bounds_of : Case → Resource → ReserveBounds
reserve_bounds_of c r =
    record {
      regulation = power (service_bound c r regulation);
      contingency = power (service_bound c r contingency);
      on_line_short_term = power (service_bound c r on_line_short_term);
      off_line_short_term = power (service_bound c r off_line_short_term);
    }
