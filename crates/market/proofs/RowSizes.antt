-- How large the coefficients and the right sides of rows are.
use Prim.Native.Nat.{ℕ, suc, ◌<◌}
use native.Mathlib.Nat.{le_refl}
use native.Mathlib.Omega.{arith}
use lib.Dec.{eqb}
use lib.IntN.{ℤ}
use Rattle.arith.proofs.Magnitudes.{Size, size_nat, size-neg, size-mul}
use Rattle.market.specs.Case.{Case, Resource, Curve, operating, regulating_plus_spinning, regulating, short_term, curve_number}
use Rattle.market.specs.UpperBounds.{Service, energy, regulation, contingency, on_line_short_term, off_line_short_term, ramping_up, ramping_down, charging, Quantity, cleared_quantity, provided_quantity}
use Rattle.market.specs.Rows.{Row, balance_row, market_row, zone_row, flowgate_row, limit_row, Limit, max_with_reserve, max_with_short_term, minimum, high, low, none, one, minus_one, entries, spins, in_reserve, in_limit, coefficient, right_side, is_spinning}
use Rattle.market.proofs.Families.{RowOf, QuantityOf}
use Rattle.market.specs.Sizes.{most_limit, most_coefficient, most_right}
use Rattle.market.proofs.Ranges.{CaseRanges}
use Rattle.market.proofs.LimitSizes.{size-if, max_most, minimum_size, high_size, low_size}

-- ---- the table's entries
none-size : {m : ℕ} → Size none m
unfolding none
none-size = size_nat (omega arith)

one_size : Size one 1
unfolding one
one_size = size_nat (omega arith)

minus_one-size : Size minus_one 1
unfolding minus_one
minus_one-size = record { le = omega arith }

entries_size : {e g c s o u d : ℤ} {m : ℕ} → Size e m → Size g m → Size c m → Size s m → Size o m → Size u m → Size d m → (v : Service) → Size (entries e g c s o u d v) m
unfolding entries
entries_size he hg hc hs ho hu hd energy = he
entries_size he hg hc hs ho hu hd regulation = hg
entries_size he hg hc hs ho hu hd contingency = hc
entries_size he hg hc hs ho hu hd on_line_short_term = hs
entries_size he hg hc hs ho hu hd off_line_short_term = ho
entries_size he hg hc hs ho hu hd ramping_up = hu
entries_size he hg hc hs ho hu hd ramping_down = hd
entries_size he hg hc hs ho hu hd charging = size-neg he

spins_size : (r : Resource) → Size (spins r) 1
unfolding spins
spins_size r = size-if (is_spinning r) one_size none-size

in_reserve_size : (r : Resource) (k : Curve) (s : Service) → Size (in_reserve r k s) 1
unfolding in_reserve
in_reserve_size r operating s = entries_size none-size one_size one_size none-size none-size none-size none-size s
in_reserve_size r regulating_plus_spinning s = entries_size none-size one_size (spins_size r) none-size none-size none-size none-size s
in_reserve_size r regulating s = entries_size none-size one_size none-size none-size none-size none-size none-size s
in_reserve_size r short_term s = entries_size none-size none-size none-size one_size one_size none-size none-size s

in_limit_size : (l : Limit) (s : Service) → Size (in_limit l s) 1
unfolding in_limit
in_limit_size max_with_reserve s = entries_size minus_one-size minus_one-size minus_one-size none-size none-size minus_one-size none-size s
in_limit_size max_with_short_term s = entries_size minus_one-size none-size none-size minus_one-size none-size none-size none-size s
in_limit_size minimum s = entries_size one_size minus_one-size none-size none-size none-size none-size minus_one-size s
in_limit_size high s = entries_size minus_one-size none-size none-size none-size none-size none-size none-size s
in_limit_size low s = entries_size one_size none-size none-size none-size none-size none-size none-size s

-- ---- rows
module _ (c : Case) (h : CaseRanges c) where
  pub coefficient_size : (r : Row) (q : Quantity) → RowOf c r → QuantityOf c q → Size (coefficient c r q) (most_coefficient r)
  unfolding coefficient
  coefficient_size balance_row (cleared_quantity l) m n = none-size
  coefficient_size balance_row (provided_quantity i s) m n = entries_size one_size none-size none-size none-size none-size none-size none-size s
  coefficient_size (market_row k) (cleared_quantity l) m n = size-if (eqb (curve_number k) (curve_number l)) minus_one-size none-size
  coefficient_size (market_row k) (provided_quantity i s) m n = in_reserve_size (c.resource i) k s
  coefficient_size (zone_row z k) (cleared_quantity l) m n = none-size
  coefficient_size (zone_row z k) (provided_quantity i s) m n = size-if (eqb (c.resource i).zone (suc z)) (in_reserve_size (c.resource i) k s) none-size
  coefficient_size (flowgate_row f) (cleared_quantity l) m n = none-size
  coefficient_size (flowgate_row f) (provided_quantity i s) m n = size-neg (entries_size (h.shift_factor f i m n.0) none-size none-size none-size none-size none-size none-size s)
  coefficient_size (limit_row j l) (cleared_quantity k) m n = none-size
  coefficient_size (limit_row j l) (provided_quantity i s) m n = size-if (eqb i j) (in_limit_size l s) none-size

  limit_size : (i : ℕ) (l : Limit) → i < c.resources → Size (right_side c (limit_row i l)) (most_limit l)
  unfolding right_side
  limit_size i max_with_reserve m = size-neg (size_nat (max_most (h.resource i m)))
  limit_size i max_with_short_term m = size-neg (size_nat (max_most (h.resource i m)))
  limit_size i minimum m = minimum_size (h.resource i m)
  limit_size i high m = size-neg (high_size (h.resource i m))
  limit_size i low m = low_size (h.resource i m)

  pub right_size : (r : Row) → RowOf c r → Size (right_side c r) (most_right r)
  unfolding right_side
  right_size balance_row m = size_nat h.demand_to
  right_size (market_row k) m = size_nat (omega arith)
  right_size (zone_row z k) m = size_nat (h.zone_requirement z k m.0 m.1)
  right_size (flowgate_row f) m = size-neg (size-mul (size_nat (le_refl 1000)) (h.flowgate_limit f m))
  right_size (limit_row i l) m = limit_size i l m.0
