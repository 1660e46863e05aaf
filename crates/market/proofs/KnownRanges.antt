-- What is known of a valid case, and of a certificate's prices past 12, as inequalities of numbers.
use Prim.Native.Nat.{ℕ, ◌<◌, ◌≤◌}
use lib.Dec.{T}
use Rattle.arith.proofs.Magnitudes.{Size}
use Rattle.market.specs.Case.{Case, Resource, Curve, has_curve, zoned, Reserve, width_of, energy_steps, curve_steps}
use Rattle.market.specs.Rows.{Row}
use Rattle.market.specs.Certificate.{Prices, highest_price}
use Rattle.market.specs.Sizes.{most_power, most_ramp, most_cents, most_demand, most_curve_width, most_zone_requirement, most_flowgate_limit, most_factor}
use Rattle.market.proofs.Families.{RowOf}
use Rattle.market.proofs.LargestCase.{CountRanges}

pub record ReserveRanges (c : Case) (p : Reserve) : Type 0 where
  pub multiplier_from : 1 ≤ c.multiplier p
  pub multiplier_to : c.multiplier p ≤ 5000
  pub minutes_from : 1 ≤ c.minutes p
  pub minutes_to : c.minutes p ≤ 60
  pub share_to : c.share p ≤ 1000
  pub requirement_to : c.requirement p ≤ 8000000

pub record ResourceRanges (zones : ℕ) (r : Resource) : Type 0 where
  pub kind_from : 1 ≤ r.kind
  pub kind_to : r.kind ≤ 3
  pub zone_from : 1 ≤ r.zone
  pub zone_to : r.zone ≤ zones
  pub breaker_to : r.breaker ≤ 1
  pub status_to : r.status ≤ 15
  pub output_size : Size r.output most_power
  pub economic_min : r.economic_min ≤ most_power
  pub economic_max : r.economic_max ≤ most_power
  pub regulating_min : r.regulating_min ≤ most_power
  pub regulating_max : r.regulating_max ≤ most_power
  pub emergency_min : r.emergency_min ≤ most_power
  pub emergency_max : r.emergency_max ≤ most_power
  pub initial_to : r.initial ≤ most_power
  pub off_line_response : r.off_line_response ≤ most_power
  pub off_line_short_term : r.off_line_short_term ≤ most_power
  pub self_schedule : r.self_schedule ≤ most_power
  pub ramp_up : r.ramp_up ≤ most_ramp
  pub ramp_down : r.ramp_down ≤ most_ramp
  pub ramp_rate : r.ramp_rate ≤ most_ramp
  pub regulating_price : r.regulating_price ≤ most_cents
  pub contingency_price : r.contingency_price ≤ most_cents
  pub off_line_short_term_price : r.off_line_short_term_price ≤ most_cents
  pub step_width : (j : ℕ) → j < energy_steps → r.step_width j ≤ most_power
  pub step_price : (j : ℕ) → j < energy_steps → Size (r.step_price j) most_cents
  -- 6: the widths together
  pub widths_to : width_of r.step_width energy_steps ≤ most_power
  -- 7
  pub economic_ordered : r.economic_min ≤ r.economic_max
  pub regulating_ordered : r.regulating_min ≤ r.regulating_max
  pub emergency_ordered : r.emergency_min ≤ r.emergency_max

pub record CaseRanges (c : Case) : Type 0 where
  pub counts : CountRanges c
  pub resources_from : 1 ≤ c.resources
  pub zones_from : 1 ≤ c.zones
  pub demand_to : c.demand ≤ most_demand
  pub reserve : (p : Reserve) → ReserveRanges c p
  pub curve_width : (k : Curve) → T (has_curve c.version k) → (j : ℕ) → j < curve_steps → c.curve_width k j ≤ most_curve_width
  pub curve_price : (k : Curve) → T (has_curve c.version k) → (j : ℕ) → j < curve_steps → c.curve_price k j ≤ most_cents
  pub zone_requirement : (z : ℕ) (k : Curve) → z < c.zones → T (zoned k) → c.zone_requirement z k ≤ most_zone_requirement
  pub resource : (i : ℕ) → i < c.resources → ResourceRanges c.zones (c.resource i)
  pub flowgate_limit : (f : ℕ) → f < c.flowgates → Size (c.flowgate_limit f) most_flowgate_limit
  pub shift_factor : (f i : ℕ) → f < c.flowgates → i < c.resources → Size (c.shift_factor f i) most_factor

pub record PriceRanges (c : Case) (y : Prices) : Type 0 where
  pub price : (r : Row) → RowOf c r → Size (y r) (highest_price r)
