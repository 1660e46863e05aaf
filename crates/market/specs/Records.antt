-- The records that code reads by value, as they follow from the figures of a case and of a certificate.
use Rattle.std.specs.Prelude.{List, [], ◌∷◌, ℕ, ℤ, pos}
use Rattle.market.specs.declared.Kw.{Kw}
use Rattle.market.specs.declared.KwPerMinute.{KwPerMinute}
use Rattle.market.specs.declared.Minutes.{Minutes}
use Rattle.market.specs.declared.Thousandths.{Thousandths}
use Rattle.market.specs.declared.Cents.{Cents}
use Rattle.market.specs.declared.Millicents.{Millicents}
use Rattle.market.specs.declared.Watts.{Watts}
use Rattle.market.specs.declared.ShiftFactor.{ShiftFactor}
use Rattle.market.specs.declared.Grains.{Grains}
use Rattle.market.specs.declared.Counts.{Counts}
use Rattle.market.specs.declared.Step.{Step}
use Rattle.market.specs.declared.State.{State}
use Rattle.market.specs.declared.OutputLimits.{OutputLimits}
use Rattle.market.specs.declared.Ramps.{Ramps}
use Rattle.market.specs.declared.OtherPowers.{OtherPowers}
use Rattle.market.specs.declared.ReserveOffers.{ReserveOffers}
use Rattle.market.specs.declared.ReserveTerms.{ReserveTerms}
use Rattle.market.specs.declared.PerReserve.{PerReserve}
use Rattle.market.specs.declared.PerService.{PerService}
use Rattle.market.specs.declared.LimitPrices.{LimitPrices}
use Rattle.market.specs.declared.PerCurve.{PerCurve}
use Rattle.market.specs.declared.Resource as D
use Rattle.market.specs.Bits.{status_bits}
use Rattle.market.specs.Kinds.{kind_of, breaker_of}
use Rattle.market.specs.Case.{Case, Resource, Curve, Reserve, regulating_reserve, contingency_reserve, short_term_reserve, operating, regulating_plus_spinning, regulating, short_term}
use Rattle.market.specs.UpperBounds.{cleared_quantity, provided_quantity, energy, regulation, contingency, on_line_short_term, off_line_short_term, Schedule}
use Rattle.market.specs.Rows.{Row, limit_row, max_with_reserve, max_with_short_term, minimum, high, low}
use Rattle.market.specs.Certificate.{Prices}

abbrev pub kw : ℤ → Kw
kw v = record { 0 = v }

abbrev pub cents : ℤ → Cents
cents v = record { 0 = v }

abbrev pub millicents : ℤ → Millicents
millicents v = record { 0 = v }

abbrev pub watts : ℤ → Watts
watts v = record { 0 = v }

abbrev pub shift_factor : ℤ → ShiftFactor
shift_factor v = record { 0 = v }

abbrev pub grains : ℤ → Grains
grains v = record { 0 = v }

-- a figure of the case, which is not negative, in its unit
abbrev pub power : ℕ → Kw
power n = kw (pos n)

abbrev pub price : ℕ → Cents
price n = cents (pos n)

abbrev pub per_minute : ℕ → KwPerMinute
per_minute n = record { 0 = pos n }

abbrev pub minutes : ℕ → Minutes
minutes n = record { 0 = n }

abbrev pub thousandths : ℕ → Thousandths
thousandths n = record { 0 = n }

abbrev pub counts_in : Case → Counts
counts_in c = record { version = c.version; resources = c.resources; zones = c.zones; flowgates = c.flowgates }

unfoldable pub offer_step_of : Resource → ℕ → Step
offer_step_of r j = record { width = power (r.step_width j); price = cents (r.step_price j) }

unfoldable pub offer_steps_of : Resource → List Step
offer_steps_of r =
    offer_step_of r 0 ∷ offer_step_of r 1 ∷ offer_step_of r 2 ∷ offer_step_of r 3 ∷ offer_step_of r 4
    ∷ offer_step_of r 5 ∷ offer_step_of r 6 ∷ offer_step_of r 7 ∷ offer_step_of r 8 ∷ offer_step_of r 9 ∷ []

unfoldable pub state_of : Resource → State
state_of r =
    record {
      kind = kind_of r.kind;
      zone = r.zone;
      breaker = breaker_of r.breaker;
      status = record { 0 = status_bits r.status };
      trip = minutes r.trip;
      flags = record { 0 = r.flags };
      output = kw r.output;
    }

unfoldable pub output_limits_of : Resource → OutputLimits
output_limits_of r =
    record {
      economic_min = power r.economic_min;
      economic_max = power r.economic_max;
      regulating_min = power r.regulating_min;
      regulating_max = power r.regulating_max;
      emergency_min = power r.emergency_min;
      emergency_max = power r.emergency_max;
    }

unfoldable pub ramps_of : Resource → Ramps
ramps_of r = record { up = per_minute r.ramp_up; down = per_minute r.ramp_down; rate = per_minute r.ramp_rate }

unfoldable pub other_powers_of : Resource → OtherPowers
other_powers_of r =
    record {
      initial = power r.initial;
      off_line_response = power r.off_line_response;
      off_line_short_term = power r.off_line_short_term;
      self_schedule = power r.self_schedule;
    }

unfoldable pub reserve_offers_of : Resource → ReserveOffers
reserve_offers_of r =
    record { regulating = price r.regulating_price; contingency = price r.contingency_price; off_line_short_term = price r.off_line_short_term_price }

-- a resource's record; its energy steps are `offer_steps_of`
unfoldable pub record_of : Resource → D.Resource
record_of r =
    record { state = state_of r; limits = output_limits_of r; ramps = ramps_of r; other_powers = other_powers_of r; offers = reserve_offers_of r }

-- what a case says of a reserve
unfoldable pub reserve_terms_of : Case → Reserve → ReserveTerms
reserve_terms_of c reserve =
    record { multiplier = thousandths (c.multiplier reserve); minutes = minutes (c.minutes reserve); share = thousandths (c.share reserve); requirement = power (c.requirement reserve) }

unfoldable pub terms_of : Case → PerReserve ReserveTerms
terms_of c =
    record {
      regulating = reserve_terms_of c regulating_reserve;
      contingency = reserve_terms_of c contingency_reserve;
      short_term = reserve_terms_of c short_term_reserve;
    }

unfoldable pub curve_step_of : Case → Curve → ℕ → Step
curve_step_of c k j = record { width = power (c.curve_width k j); price = price (c.curve_price k j) }

unfoldable pub curve_steps_of : Case → Curve → List Step
curve_steps_of c k = curve_step_of c k 0 ∷ curve_step_of c k 1 ∷ curve_step_of c k 2 ∷ curve_step_of c k 3 ∷ []

-- ---- of a certificate
unfoldable pub amounts_of : Schedule → ℕ → PerService Kw
amounts_of x i =
    record {
      energy = power (x (provided_quantity i energy));
      regulation = power (x (provided_quantity i regulation));
      contingency = power (x (provided_quantity i contingency));
      on_line_short_term = power (x (provided_quantity i on_line_short_term));
      off_line_short_term = power (x (provided_quantity i off_line_short_term));
    }

unfoldable pub limit_prices_of : Prices → ℕ → LimitPrices
limit_prices_of y i =
    record {
      max_with_reserve = millicents (y (limit_row i max_with_reserve));
      max_with_short_term = millicents (y (limit_row i max_with_short_term));
      minimum = millicents (y (limit_row i minimum));
      high = millicents (y (limit_row i high));
      low = millicents (y (limit_row i low));
    }

-- a figure for each curve
abbrev pub curve_amounts_of : (Curve → ℤ) → PerCurve Kw
curve_amounts_of figure =
    record {
      operating = kw (figure operating);
      regulating_plus_spinning = kw (figure regulating_plus_spinning);
      regulating = kw (figure regulating);
      short_term = kw (figure short_term);
    }

unfoldable pub zone_requirements_of : Case → ℕ → PerCurve Kw
zone_requirements_of c z = curve_amounts_of (λ k. pos (c.zone_requirement z k))

unfoldable pub cleared_of : Schedule → PerCurve Kw
cleared_of x = curve_amounts_of (λ k. pos (x (cleared_quantity k)))

-- of the rows that `row_of` names for each curve: market_row, or zone_row z
unfoldable pub reserve_prices_of : Prices → (Curve → Row) → PerCurve Millicents
reserve_prices_of y row_of =
    record {
      operating = millicents (y (row_of operating));
      regulating_plus_spinning = millicents (y (row_of regulating_plus_spinning));
      regulating = millicents (y (row_of regulating));
      short_term = millicents (y (row_of short_term));
    }
