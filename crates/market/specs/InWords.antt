-- The table in the words of 01: the slack of each kind of row as the sum that 'Rows' writes, and the net price of each kind
-- of priced quantity without a sum over all rows. The cost theorem alone holds of many tables; these say which one it is.
use Rattle.std.specs.Prelude.{◌≡◌, cond, ℕ, suc, ◌<◌, T, eqb, ℤ, pos, ◌+ℤ◌, ◌*ℤ◌, ◌-ℤ◌}
use Rattle.arith.specs.Sums.{sum_of, upto}
use Rattle.market.specs.Case.{Case, Resource, Curve, has_curve, operating, regulating_plus_spinning, regulating, short_term}
use Rattle.market.specs.Limits.{max_of, min_of, hi_of, lo_of}
use Rattle.market.specs.UpperBounds.{Service, energy, regulation, contingency, on_line_short_term, off_line_short_term, cleared_quantity, provided_quantity, Schedule}
use Rattle.market.specs.Rows.{balance_row, market_row, zone_row, flowgate_row, limit_row, max_with_reserve, max_with_short_term, minimum, high, low, is_spinning, slack}
use Rattle.market.specs.Certificate.{Prices}
use Rattle.market.specs.Cost.{priced_energy_step, priced_whole, priced_curve_step}
use Rattle.market.specs.Bound.{net_price}
use Rattle.market.specs.Prices.{lmp_of, zone_regulating_price, zone_spinning_price, zone_supplemental_price, zone_short_term_price}

-- ---- rows
abbrev pub kw_of : Schedule → ℕ → Service → ℤ
kw_of x i s = pos (x (provided_quantity i s))

-- what a resource gives to a reserve row, of what it provides: g+c, g+spin, g, s+o
abbrev pub reserve_given : Resource → Curve → (Service → ℤ) → ℤ
reserve_given r operating provided = provided regulation +ℤ provided contingency
reserve_given r regulating_plus_spinning provided = provided regulation +ℤ cond (is_spinning r) (provided contingency) (pos 0)
reserve_given r regulating provided = provided regulation
reserve_given r short_term provided = provided on_line_short_term +ℤ provided off_line_short_term

abbrev pub reserve_of : Case → Schedule → Curve → ℕ → ℤ
reserve_of c x k i = reserve_given (c.resource i) k (kw_of x i)

abbrev pub reserve_in_zone : Case → Schedule → ℕ → Curve → ℕ → ℤ
reserve_in_zone c x z k i = cond (eqb (c.resource i).zone (suc z)) (reserve_of c x k i) (pos 0)

pub record RowsInWords (c : Case) (x : Schedule) : Type 0 where
  -- sum of e = demand
  pub balance : slack c x balance_row ≡ sum_of (λ i. kw_of x i energy) (upto c.resources) -ℤ pos c.demand
  -- market-wide against the cleared quantity, in a zone against its requirement
  pub market : (k : Curve) → T (has_curve c.version k) → slack c x (market_row k) ≡ sum_of (reserve_of c x k) (upto c.resources) -ℤ pos (x (cleared_quantity k))
  pub zone : (z : ℕ) (k : Curve) → slack c x (zone_row z k) ≡ sum_of (reserve_in_zone c x z k) (upto c.resources) -ℤ pos (c.zone_requirement z k)
  -- sum of factor × e ≤ 1000 × limit
  pub flowgate : (f : ℕ) → slack c x (flowgate_row f) ≡ pos 1000 *ℤ c.flowgate_limit f -ℤ sum_of (λ i. c.shift_factor f i *ℤ kw_of x i energy) (upto c.resources)
  -- e+g+c ≤ MAX, e+s ≤ MAX, e-g ≥ MIN, e ≤ HI, e ≥ LO
  pub below_max : (i : ℕ) → i < c.resources → slack c x (limit_row i max_with_reserve) ≡ pos (max_of (c.resource i)) -ℤ (kw_of x i energy +ℤ kw_of x i regulation +ℤ kw_of x i contingency)
  pub below_max_short_term : (i : ℕ) → i < c.resources → slack c x (limit_row i max_with_short_term) ≡ pos (max_of (c.resource i)) -ℤ (kw_of x i energy +ℤ kw_of x i on_line_short_term)
  pub above_min : (i : ℕ) → i < c.resources → slack c x (limit_row i minimum) ≡ kw_of x i energy -ℤ kw_of x i regulation -ℤ min_of (c.resource i)
  pub below_high : (i : ℕ) → i < c.resources → slack c x (limit_row i high) ≡ hi_of (c.resource i) -ℤ kw_of x i energy
  pub above_low : (i : ℕ) → i < c.resources → slack c x (limit_row i low) ≡ kw_of x i energy -ℤ lo_of (c.resource i)

-- ---- net prices
-- the prices of a resource's own rows, as they stand against its energy
abbrev pub limit_prices : Prices → ℕ → ℤ
limit_prices y i = y (limit_row i max_with_reserve) +ℤ y (limit_row i max_with_short_term) -ℤ y (limit_row i minimum) +ℤ y (limit_row i high) -ℤ y (limit_row i low)

-- resource i of the case stands in zone z, counted from 0
pub record Placed (c : Case) (i z : ℕ) : Type 0 where
  pub below : i < c.resources
  pub zoned : (c.resource i).zone ≡ suc z
  pub zone_below : z < c.zones

pub record NetPricesInWords (c : Case) (y : Prices) : Type 0 where
  pub energy_step : (i j z : ℕ) → Placed c i z → net_price c y (priced_energy_step i j) ≡ pos 1000 *ℤ (c.resource i).step_price j -ℤ lmp_of c y i +ℤ limit_prices y i
  pub regulation_price : (i z : ℕ) → Placed c i z →
      net_price c y (priced_whole i regulation) ≡ pos 1000 *ℤ pos (c.resource i).regulating_price -ℤ zone_regulating_price y z +ℤ (y (limit_row i max_with_reserve) +ℤ y (limit_row i minimum))
  -- spinning or supplemental
  pub contingency_price : (i z : ℕ) → Placed c i z →
      net_price c y (priced_whole i contingency) ≡ pos 1000 *ℤ pos (c.resource i).contingency_price -ℤ cond (is_spinning (c.resource i)) (zone_spinning_price y z) (zone_supplemental_price y z) +ℤ y (limit_row i max_with_reserve)
  pub on_line_short_term : (i z : ℕ) → Placed c i z → net_price c y (priced_whole i on_line_short_term) ≡ y (limit_row i max_with_short_term) -ℤ zone_short_term_price y z
  pub off_line_short_term : (i z : ℕ) → Placed c i z → net_price c y (priced_whole i off_line_short_term) ≡ pos 1000 *ℤ pos (c.resource i).off_line_short_term_price -ℤ zone_short_term_price y z
  pub curve_step : (k : Curve) → T (has_curve c.version k) → (j : ℕ) → net_price c y (priced_curve_step k j) ≡ y (market_row k) -ℤ pos 1000 *ℤ pos (c.curve_price k j)
