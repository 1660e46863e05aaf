-- What a certificate gives an amount to, and the upper bound of each (01, 'What is carried', 'Before the rows').
use Rattle.std.specs.Prelude.{Bool, true, cond, ◌||◌, List, [], ◌∷◌, ◌++◌, map, ℕ, ◌*◌, ◌/◌, min}
use Rattle.arith.specs.Sums.{upto, across, when}
use Rattle.market.specs.Version.{Version, ramping, storing}
use Rattle.market.specs.Bits.{on_line_supplemental, regulating_flag, spinning_flag, off_line_supplemental_flag, off_line_short_term_flag, on_line_short_term_flag}
use Rattle.market.specs.Case.{Case, Resource, Curve, curves, Reserve, regulating_reserve, contingency_reserve, short_term_reserve, width_of, energy_steps, curve_steps}
use Rattle.market.specs.Availability.{availability_of}
use Rattle.market.specs.Limits.{max_of}
use Rattle.market.specs.declared.Availability.{Availability}
use Rattle.market.specs.declared.Availability.TheVariants.{OnLine, OffLine, Tripped}

-- what a resource provides: e, g, c, s, o; and what no version has yet: u, d, h (02, requests 3 and 10)
pub data Service : Type 0 where
  energy regulation contingency on_line_short_term off_line_short_term ramping_up ramping_down charging : Service

-- all that a version may have, and which of them it has
abbrev pub all_services : List Service
all_services = energy ∷ regulation ∷ contingency ∷ on_line_short_term ∷ off_line_short_term ∷ ramping_up ∷ ramping_down ∷ charging ∷ []

abbrev pub has_service : Version → Service → Bool
has_service version energy = true
has_service version regulation = true
has_service version contingency = true
has_service version on_line_short_term = true
has_service version off_line_short_term = true
has_service version ramping_up = ramping version
has_service version ramping_down = ramping version
has_service version charging = storing version

-- all but energy, whose steps are priced one by one
abbrev pub reserve_services : Version → List Service
reserve_services version = regulation ∷ contingency ∷ on_line_short_term ∷ off_line_short_term ∷ when (ramping version) (ramping_up ∷ ramping_down ∷ []) ++ when (storing version) (charging ∷ [])

abbrev pub services : Version → List Service
services version = energy ∷ reserve_services version

pub data Quantity : Type 0 where
  cleared_quantity : Curve → Quantity
  provided_quantity : ℕ → Service → Quantity

-- in the order of refusal 13's places
unfoldable pub quantities : Case → List Quantity
quantities c = map cleared_quantity (curves c.version) ++ across (λ i. map (provided_quantity i) (services c.version)) (upto c.resources)

-- a schedule gives a whole number of kW, none negative, to each quantity
abbrev pub Schedule : Type 0
Schedule = Quantity → ℕ

-- rounded down: first multiplied, then divided
unfoldable pub ramp_of : Case → Reserve → Resource → ℕ
ramp_of c reserve r = r.ramp_rate * c.minutes reserve * 1000 / c.multiplier reserve

unfoldable pub share_of : Case → Reserve → ℕ
share_of c reserve = c.share reserve * c.requirement reserve / 1000

-- the least of RAMP, SHARE and MAX
unfoldable pub on_line_bound : Case → Reserve → Resource → ℕ
on_line_bound c reserve r = min (ramp_of c reserve r) (min (share_of c reserve) (max_of r))

-- on-line, off-line, tripped (01; 02, request 2); 0 of what no version has
unfoldable pub bound_when : Availability → Case → Resource → Service → ℕ
bound_when OnLine c r energy = width_of r.step_width energy_steps
bound_when OnLine c r regulation = cond (regulating_flag r.flags) (on_line_bound c regulating_reserve r) 0
bound_when OnLine c r contingency = cond (spinning_flag r.flags || on_line_supplemental r.status) (on_line_bound c contingency_reserve r) 0
bound_when OnLine c r on_line_short_term = cond (on_line_short_term_flag r.flags) (on_line_bound c short_term_reserve r) 0
bound_when OnLine c r off_line_short_term = 0
bound_when OnLine c r ramping_up = 0
bound_when OnLine c r ramping_down = 0
bound_when OnLine c r charging = 0
bound_when OffLine c r energy = 0
bound_when OffLine c r regulation = 0
bound_when OffLine c r contingency = cond (off_line_supplemental_flag r.flags) (min r.economic_max (min r.off_line_response (share_of c contingency_reserve))) 0
bound_when OffLine c r on_line_short_term = 0
bound_when OffLine c r off_line_short_term = cond (off_line_short_term_flag r.flags) (min r.economic_max r.off_line_short_term) 0
bound_when OffLine c r ramping_up = 0
bound_when OffLine c r ramping_down = 0
bound_when OffLine c r charging = 0
bound_when Tripped c r s = 0

unfoldable pub service_bound : Case → Resource → Service → ℕ
service_bound c r = bound_when (availability_of r) c r

unfoldable pub upper_bound : Case → Quantity → ℕ
upper_bound c (cleared_quantity k) = width_of (c.curve_width k) curve_steps
upper_bound c (provided_quantity i s) = service_bound c (c.resource i) s
