-- The figures of sums are those computed over the most rows and quantities; and figures that hold of each row or quantity.
use mathlib.Core.Path.{◌≡◌, refl}
use Prim.Native.Nat.{◌+◌, ◌*◌, ◌≤◌}
use native.Mathlib.Omega.{arith}
use Rattle.arith.specs.Sums.{total_of, upto, across}
use Rattle.market.specs.UpperBounds.{energy, regulation, contingency, on_line_short_term, off_line_short_term, ramping_up, ramping_down, charging, Quantity, cleared_quantity, provided_quantity}
use Rattle.market.specs.Rows.{Row, balance_row, market_row, zone_row, flowgate_row, limit_row, Limit, max_with_reserve, max_with_short_term, minimum, high, low}
use Rattle.market.specs.Certificate.{highest_price}
use Rattle.market.proofs.LargestCase.{most_rows, most_quantities}
use Rattle.market.specs.Sizes.{most_demand, most_factor, most_limit, most_coefficient, most_right, most_amount, most_price, most_net, most_amounts, most_taken, most_cost, most_products, most_row_terms, most_charge}

-- ---- sums over the most rows and quantities
pub amounts_figure : total_of most_amount most_quantities ≡ most_amounts
unfolding total_of upto across
amounts_figure = refl

-- how many places 13 can name
pub places_figure : total_of (λ (q : Quantity). 1) most_quantities ≤ 1000
unfolding total_of upto across
places_figure = omega arith

-- and 14
pub row_numbers_figure : total_of (λ (row : Row). 1) most_rows ≤ 1000
unfolding total_of upto across
row_numbers_figure = omega arith

pub cost_figure : total_of (λ q. most_price * most_amount q) most_quantities ≡ most_cost
unfolding total_of upto across
cost_figure = refl

pub products_figure : total_of (λ q. most_net q * most_amount q) most_quantities ≡ most_products
unfolding total_of upto across
products_figure = refl

pub row_terms_figure : total_of (λ r. highest_price r * most_right r) most_rows ≡ most_row_terms
unfolding total_of upto across
row_terms_figure = refl

pub taken_figure : total_of (λ r. most_price) most_rows ≡ most_taken
unfolding total_of upto across
taken_figure = refl

-- ---- figures of one row or quantity
-- a flowgate's price is in cents, as its factors are in thousandths
pub price_figure : (r : Row) → highest_price r * most_coefficient r ≡ most_price
price_figure balance_row = refl
price_figure (market_row k) = refl
price_figure (zone_row z k) = refl
price_figure (flowgate_row f) = refl
price_figure (limit_row i l) = refl

pub coefficient_figure : (r : Row) → most_coefficient r ≤ most_factor
coefficient_figure balance_row = omega arith
coefficient_figure (market_row k) = omega arith
coefficient_figure (zone_row z k) = omega arith
coefficient_figure (flowgate_row f) = omega arith
coefficient_figure (limit_row i l) = omega arith

limit_figure : (l : Limit) → most_limit l ≤ most_demand
limit_figure max_with_reserve = omega arith
limit_figure max_with_short_term = omega arith
limit_figure minimum = omega arith
limit_figure high = omega arith
limit_figure low = omega arith

pub right_figure : (r : Row) → most_right r ≤ most_coefficient r * most_demand
right_figure balance_row = omega arith
right_figure (market_row k) = omega arith
right_figure (zone_row z k) = omega arith
right_figure (flowgate_row f) = omega arith
right_figure (limit_row i l) = omega (arith, limit_figure l)

-- a priced quantity's charge: what it adds at its net price, less the lowest
pub charge_figure : (q : Quantity) → most_net q * most_amount q + most_net q * most_amount q ≤ most_charge
charge_figure (cleared_quantity k) = omega arith
charge_figure (provided_quantity i energy) = omega arith
charge_figure (provided_quantity i regulation) = omega arith
charge_figure (provided_quantity i contingency) = omega arith
charge_figure (provided_quantity i on_line_short_term) = omega arith
charge_figure (provided_quantity i off_line_short_term) = omega arith
charge_figure (provided_quantity i ramping_up) = omega arith
charge_figure (provided_quantity i ramping_down) = omega arith
charge_figure (provided_quantity i charging) = omega arith
