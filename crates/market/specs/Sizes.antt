-- How large the figures of a valid case can be, and the prices made of row prices in range (01, 'The case file', ranges;
-- 'Certificate, cost, bound, charges'; 02, request 9). This is the one table of such figures. That they hold is proved in LimitSizes,
-- RowSizes, AmountSizes, NetPriceSizes and BoundSizes, that all sums fit in SumsFit; the code's contracts carry them. `Fits.SumsAtMost`
-- has those of sums in decimals.
use Rattle.std.specs.Prelude.{ℕ, ◌+◌, ◌*◌, length}
use Rattle.market.specs.Case.{all_curves, zoned_curves, curve_steps}
use Rattle.market.specs.CaseCheck.{most_resources, most_zones, most_flowgates}
use Rattle.market.specs.UpperBounds.{Service, energy, regulation, contingency, on_line_short_term, off_line_short_term, ramping_up, ramping_down, charging, Quantity, cleared_quantity, provided_quantity}
use Rattle.market.specs.Rows.{Row, balance_row, market_row, zone_row, flowgate_row, limit_row, Limit, max_with_reserve, max_with_short_term, minimum, high, low, all_limits}

-- ---- the ends of the ranges
-- of a resource's power and of a width of its steps, in kW
abbrev pub most_power : ℕ
most_power = 2000000

-- kW a minute
abbrev pub most_ramp : ℕ
most_ramp = 400000

-- of an offer and of a curve step, in cents
abbrev pub most_cents : ℕ
most_cents = 400000

abbrev pub most_demand : ℕ
most_demand = 128000000

abbrev pub most_curve_width : ℕ
most_curve_width = 8000000

abbrev pub most_zone_requirement : ℕ
most_zone_requirement = 2000000

abbrev pub most_flowgate_limit : ℕ
most_flowgate_limit = 20000000

-- thousandths
abbrev pub most_factor : ℕ
most_factor = 1000

-- ---- a resource's limits; HI is an initial output and five minutes' ramp
abbrev pub most_limit : Limit → ℕ
most_limit max_with_reserve = most_power
most_limit max_with_short_term = most_power
most_limit minimum = most_power
most_limit high = most_power + 5 * most_ramp
most_limit low = most_power

-- ---- rows: a coefficient, and the right side
abbrev pub most_coefficient : Row → ℕ
most_coefficient balance_row = 1
most_coefficient (market_row k) = 1
most_coefficient (zone_row z k) = 1
most_coefficient (flowgate_row f) = most_factor
most_coefficient (limit_row i l) = 1

abbrev pub most_right : Row → ℕ
most_right balance_row = most_demand
most_right (market_row k) = 0
most_right (zone_row z k) = most_zone_requirement
most_right (flowgate_row f) = 1000 * most_flowgate_limit
most_right (limit_row i l) = most_limit l

-- ---- amounts; 0 of what no version has
abbrev pub most_provided : Service → ℕ
most_provided energy = most_power
most_provided regulation = most_power
most_provided contingency = most_power
most_provided on_line_short_term = most_power
most_provided off_line_short_term = most_power
most_provided ramping_up = 0
most_provided ramping_down = 0
most_provided charging = 0

abbrev pub most_amount : Quantity → ℕ
most_amount (cleared_quantity k) = curve_steps * most_curve_width
most_amount (provided_quantity i s) = most_provided s

-- ---- prices, in thousandths of a cent: of a row, and of an offer
abbrev pub most_price : ℕ
most_price = 1000 * most_cents

-- row 1 and each flowgate
abbrev pub most_lmp : ℕ
most_lmp = (1 + most_flowgates) * most_price

-- of a zone: its row and the market's, for each curve to which the reserve counts
abbrev pub most_regulating_price : ℕ
most_regulating_price = 6 * most_price

abbrev pub most_spinning_price : ℕ
most_spinning_price = 4 * most_price

abbrev pub most_supplemental_price : ℕ
most_supplemental_price = 2 * most_price

abbrev pub most_short_term_price : ℕ
most_short_term_price = 2 * most_price

-- ---- net prices, a figure for each service
-- what an energy step adds its offer to: the LMP and the resource's five rows
abbrev pub most_energy_rows : ℕ
most_energy_rows = most_lmp + 5 * most_price

-- the offer, the LMP or the zone's price, and those of the resource's rows that the service stands in; no figure for what no version has
abbrev pub most_service_net : Service → ℕ
most_service_net energy = most_price + most_energy_rows
most_service_net regulation = most_price + most_regulating_price + 2 * most_price
most_service_net contingency = most_price + most_spinning_price + most_price
most_service_net on_line_short_term = most_price + most_short_term_price
most_service_net off_line_short_term = most_price + most_short_term_price
most_service_net ramping_up = 0
most_service_net ramping_down = 0
most_service_net charging = 0

-- a curve step: its price, and that of the market row
abbrev pub most_curve_net : ℕ
most_curve_net = most_price + most_price

abbrev pub most_net : Quantity → ℕ
most_net (cleared_quantity k) = most_curve_net
most_net (provided_quantity i s) = most_service_net s

-- ---- sums, over as many resources, zones and flowgates as there may be
-- all amounts together, in kW
abbrev pub most_amounts : ℕ
most_amounts =
    length all_curves * (curve_steps * most_curve_width)
    + most_resources * (most_provided energy + most_provided regulation + most_provided contingency + most_provided on_line_short_term + most_provided off_line_short_term + most_provided ramping_up + most_provided ramping_down + most_provided charging)

-- in thousandths of a cent: over all rows, row price × a quantity's coefficient
abbrev pub most_taken : ℕ
most_taken = (1 + length all_curves + most_zones * length zoned_curves + most_flowgates + most_resources * length all_limits) * most_price

-- in grains: a schedule's cost; over all that is priced, net price × upper bound; over all rows, row price × right side
abbrev pub most_cost : ℕ
most_cost = most_price * most_amounts

abbrev pub most_products : ℕ
most_products =
    length all_curves * (most_curve_net * (curve_steps * most_curve_width))
    + most_resources
    * (most_service_net energy * most_provided energy
    + most_service_net regulation * most_provided regulation
    + most_service_net contingency * most_provided contingency
    + most_service_net on_line_short_term * most_provided on_line_short_term
    + most_service_net off_line_short_term * most_provided off_line_short_term
    + most_service_net ramping_up * most_provided ramping_up
    + most_service_net ramping_down * most_provided ramping_down
    + most_service_net charging * most_provided charging)

abbrev pub most_row_terms : ℕ
most_row_terms =
    most_price * most_demand
    + most_zones * (length zoned_curves * (most_price * most_zone_requirement))
    + most_flowgates * (most_cents * (1000 * most_flowgate_limit))
    + most_resources * (most_price * (most_limit max_with_reserve + most_limit max_with_short_term + most_limit minimum + most_limit high + most_limit low))

abbrev pub most_bound : ℕ
most_bound = most_row_terms + most_products

abbrev pub most_gap : ℕ
most_gap = most_cost + most_bound

-- ---- and of one row or quantity
-- a row's left side and its right side are each at most its coefficient times so many kW
abbrev pub most_slack : Row → ℕ
most_slack r = most_coefficient r * (most_amounts + most_demand)

-- in grains
abbrev pub most_charge : ℕ
most_charge = most_price * (most_amounts + most_demand)
