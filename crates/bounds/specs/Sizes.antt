-- How large the terms of the bound can be, a figure for each kind of row and for each service, so that sums of them fit; and what
-- is known of the records that they are made from. All are made from the figures of `market/specs/Sizes.antt`.
use Rattle.market.specs.declared.PerCurve.{PerCurve}
use Rattle.std.specs.Prelude.{List}
use Rattle.std.specs.Prelude.{ℕ, ◌+◌, ◌*◌, ◌<◌, ◌≤◌, length, nat_abs}
use Rattle.arith.specs.Sums.{total_of, upto}
use Rattle.market.specs.declared.Kw.{Kw}
use Rattle.market.specs.declared.Millicents.{Millicents}
use Rattle.market.specs.declared.Step.{Step}
use Rattle.market.specs.Case.{all_curves, energy_steps, curve_steps}
use Rattle.market.specs.CaseCheck.{most_zones, most_flowgates}
use Rattle.market.specs.UpperBounds.{Service, energy, regulation, contingency, on_line_short_term, off_line_short_term}
use Rattle.market.specs.Rows.{max_with_reserve, max_with_short_term, minimum, high, low}
use Rattle.market.specs.Sizes.{most_power, most_cents, most_demand, most_curve_width, most_zone_requirement, most_flowgate_limit, most_limit, most_price, most_service_net, most_curve_net}
use Rattle.case_records.specs.Ranged.{offer_step}
use Rattle.net_prices.specs.Sizes.{SmallOffer, SmallPrice}

-- ---- how large they can be, in grains: row price × right side
-- the four rows of a zone
abbrev pub most_zone_terms : ℕ
most_zone_terms = 4 * (most_price * most_zone_requirement)

-- a flowgate's price is in cents, its limit in thousandths of a kW
abbrev pub most_flowgate_term : ℕ
most_flowgate_term = most_cents * (1000 * most_flowgate_limit)

-- the five rows of a resource
abbrev pub most_limit_terms : ℕ
most_limit_terms = most_price * (most_limit max_with_reserve + most_limit max_with_short_term + most_limit minimum + most_limit high + most_limit low)

-- row 1, zones and flowgates
abbrev pub most_common_terms : ℕ
most_common_terms = most_price * most_demand + most_zones * most_zone_terms + most_flowgates * most_flowgate_term

-- ---- net price × upper bound
-- of a resource, service by service: its energy steps together have no more than each reserve
abbrev pub most_service_term : Service → ℕ
most_service_term s = most_service_net s * most_power

abbrev pub most_reserve_terms : ℕ
most_reserve_terms = most_service_term regulation + most_service_term contingency + most_service_term on_line_short_term + most_service_term off_line_short_term

abbrev pub most_least_terms : ℕ
most_least_terms = most_service_term energy + most_reserve_terms

abbrev pub most_resource_terms : ℕ
most_resource_terms = most_limit_terms + most_least_terms

-- of a step of a curve, of a curve, of all curves
abbrev pub most_curve_step_term : ℕ
most_curve_step_term = most_curve_net * most_curve_width

abbrev pub most_curve_terms : ℕ
most_curve_terms = curve_steps * most_curve_step_term

abbrev pub most_curves_terms : ℕ
most_curves_terms = length all_curves * most_curve_terms

-- ---- figures
-- the price of a row, and its right side in kW: of these, demand is the largest
pub record RowRoom (price : Millicents) (side : Kw) : Type 0 where
  pub row_price : SmallPrice price
  pub right_side : nat_abs side.0 ≤ most_demand

pub record SmallRequirements (requirements : (PerCurve Kw)) : Type 0 where
  pub operating : nat_abs requirements.operating.0 ≤ most_zone_requirement
  pub regulating_plus_spinning : nat_abs requirements.regulating_plus_spinning.0 ≤ most_zone_requirement
  pub regulating : nat_abs requirements.regulating.0 ≤ most_zone_requirement
  pub short_term : nat_abs requirements.short_term.0 ≤ most_zone_requirement

-- a step, of a resource or of a curve, at most so wide
pub record SmallStep (step : Step) (widest : ℕ) : Type 0 where
  pub width : nat_abs step.width.0 ≤ widest
  pub price : SmallOffer step.price

-- the widths of an offer's steps together are at most what a resource can produce
abbrev pub steps_width : (List Step) → ℕ → ℕ
steps_width offered n = total_of (λ j. nat_abs (offer_step offered j).width.0) (upto n)

pub record SmallSteps (offered : (List Step)) : Type 0 where
  pub price : (j : ℕ) → j < energy_steps → SmallOffer (offer_step offered j).price
  pub together : steps_width offered energy_steps ≤ most_power
