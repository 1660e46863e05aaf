-- What is priced, how steps are filled, and the cost of a schedule, in grains (01, 'Certificate, cost, bound, charges').
-- 'Grain' is 01's own term: one thousandth of a cent per MWh times one kW.
use Rattle.std.specs.Prelude.{cond, List, ◌++◌, map, ℕ, ◌+◌, ◌*◌, ◌-◌, min, length, ℤ, pos, neg_ℤ, ◌*ℤ◌}
use Rattle.arith.specs.Sums.{upto, sum_of, across}
use Rattle.market.specs.Version.{Version}
use Rattle.market.specs.Case.{Case, Resource, Curve, curves, width_of, energy_steps, curve_steps}
use Rattle.market.specs.Availability.{on_line}
use Rattle.market.specs.UpperBounds.{Service, energy, regulation, contingency, on_line_short_term, off_line_short_term, ramping_up, ramping_down, charging, reserve_services, Quantity, cleared_quantity, provided_quantity, Schedule, service_bound}

-- the steps stand for e and for the cleared quantities
pub data Priced : Type 0 where
  priced_energy_step : ℕ → ℕ → Priced
  priced_whole : ℕ → Service → Priced
  priced_curve_step : Curve → ℕ → Priced

-- of a resource: ten steps, g, c, s, o
abbrev pub priced_of : Version → ℕ → List Priced
priced_of version i = map (priced_energy_step i) (upto energy_steps) ++ map (priced_whole i) (reserve_services version)

abbrev pub curve_priced : Curve → List Priced
curve_priced k = map (priced_curve_step k) (upto curve_steps)

-- in charge order
unfoldable pub priced : Case → List Priced
priced c = across (priced_of c.version) (upto c.resources) ++ across curve_priced (curves c.version)

-- how many of a resource, of the curves, and in all
abbrev pub resource_priced_count : Version → ℕ
resource_priced_count version = energy_steps + length (reserve_services version)

abbrev pub curve_priced_count : Version → ℕ
curve_priced_count version = length (curves version) * curve_steps

abbrev pub priced_count_of : Version → ℕ → ℕ
priced_count_of version resources = resources * resource_priced_count version + curve_priced_count version

abbrev pub priced_count : Case → ℕ
priced_count c = priced_count_of c.version c.resources

-- a step has its quantity's coefficient
unfoldable pub quantity_of : Priced → Quantity
quantity_of (priced_energy_step i j) = provided_quantity i energy
quantity_of (priced_whole i s) = provided_quantity i s
quantity_of (priced_curve_step k j) = cleared_quantity k

-- prices in cents: of s, and of what no version has, 0; of a curve step minus
unfoldable pub service_price : Resource → Service → ℕ
service_price r energy = 0
service_price r regulation = r.regulating_price
service_price r contingency = r.contingency_price
service_price r on_line_short_term = 0
service_price r off_line_short_term = r.off_line_short_term_price
service_price r ramping_up = 0
service_price r ramping_down = 0
service_price r charging = 0

unfoldable pub offer : Case → Priced → ℤ
offer c (priced_energy_step i j) = (c.resource i).step_price j
offer c (priced_whole i s) = pos (service_price (c.resource i) s)
offer c (priced_curve_step k j) = neg_ℤ (pos (c.curve_price k j))

-- a step's upper bound is its width, or 0 for an energy step of a resource that is not on-line
unfoldable pub priced_upper_bound : Case → Priced → ℕ
priced_upper_bound c (priced_energy_step i j) = cond (on_line (c.resource i)) ((c.resource i).step_width j) 0
priced_upper_bound c (priced_whole i s) = service_bound c (c.resource i) s
priced_upper_bound c (priced_curve_step k j) = c.curve_width k j

-- steps are filled in order: what of the amount fills step j
unfoldable pub filled : (ℕ → ℕ) → ℕ → ℕ → ℕ
filled w amount j = min (w j) (amount - width_of w j)

-- a step's amount is what fills it
unfoldable pub part : Case → Schedule → Priced → ℕ
part c x (priced_energy_step i j) = filled (c.resource i).step_width (x (provided_quantity i energy)) j
part c x (priced_whole i s) = x (provided_quantity i s)
part c x (priced_curve_step k j) = filled (c.curve_width k) (x (cleared_quantity k)) j

unfoldable pub cost : Case → Schedule → ℤ
cost c x = pos 1000 *ℤ sum_of (λ p. offer c p *ℤ pos (part c x p)) (priced c)
