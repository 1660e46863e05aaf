-- The rows' part of the bound: what the records of a case and of a certificate make of it, and that they are small enough.
use mathlib.Core.Path.{◌≡◌, sym, ◌∙◌}
use mathlib.Core.Bool.{false}
use mathlib.Core.List.{List}
use Prim.Native.Nat.{ℕ, ◌*◌, ◌<◌, ◌≤◌}
use native.Mathlib.Nat.{mul-le-mul}
use native.Mathlib.Omega.{arith}
use lib.IntN.{ℤ, pos, neg_ℤ, nat_abs, ◌+ℤ◌, ◌-ℤ◌, ◌*ℤ◌, +ℤ_idl, +ℤ_idr, *ℤ-zero}
use Rattle.arith.specs.Sums.{sum_of, upto}
use Rattle.arith.proofs.Linear.{sorted, count}
use Rattle.arith.proofs.Magnitudes.{abs-sub, abs-mul}
use Rattle.arith.proofs.Sums.{sum-ext, sum-zero}
use Rattle.market.specs.declared.version.Version.{Version}
use Rattle.market.specs.Case.{Case, all_curves, has_curve, curves, zoned_curves}
use Rattle.market.proofs.Versions.{summed_over_all}
use Rattle.market.specs.declared.Curve.{Curve}
use Rattle.market.specs.declared.Curve.TheVariants.{Operating as operating, RegulatingPlusSpinning as regulating_plus_spinning, Regulating as regulating, ShortTerm as short_term}
use Rattle.market.specs.CaseFile.{case_of}
use Rattle.market.specs.Limits.{max_of, min_of, hi_of, lo_of}
use Rattle.market.specs.Rows.{balance_row, market_row, zone_row, flowgate_row, limit_row, max_with_reserve, max_with_short_term, minimum, high, low, limits, rows, right_side}
use Rattle.market.specs.Certificate.{Prices, certificate_of}
use Rattle.market.specs.Sizes.{most_flowgate_limit}
use Rattle.market.specs.Records.{millicents, power, reserve_prices_of, limit_prices_of, zone_requirements_of}
use Rattle.market.proofs.TakenByRows.{rows_sum}
use Rattle.market.proofs.Ranges.{CaseRanges}
use Rattle.case_records.proofs.Places.{resources_is, zones_is, flowgates_is}
use Rattle.limits.specs.Together.{limits_of}
use Rattle.prices.specs.Standing.{PricesStand}
use Rattle.prices.proofs.Known.{case_ranges, balance_size, flowgate_size_lem, limit_size}
use Rattle.units.specs.Room.{ProductRoom}
use Rattle.bounds.specs.Sizes.{most_flowgate_term, RowRoom, SmallRequirements}
use Rattle.bounds.specs.Terms.{row_term, zone_terms, flowgate_term, limit_terms, zone_value, limit_value}

over_curves : (f : Curve → ℤ) → f operating +ℤ (f regulating_plus_spinning +ℤ (f regulating +ℤ f short_term)) ≡ sum_of f zoned_curves
unfolding sum_of
over_curves f = rw (+ℤ_idr (f short_term))

-- and over the market's, where f is 0 of a curve that the version has not
over_all : (f : Curve → ℤ) → f operating +ℤ (f regulating_plus_spinning +ℤ (f regulating +ℤ f short_term)) ≡ sum_of f all_curves
unfolding sum_of
over_all f = rw (+ℤ_idr (f short_term))

pub over_market : (version : Version) (f : Curve → ℤ) → ((k : Curve) → has_curve version k ≡ false → f k ≡ pos 0) →
    f operating +ℤ (f regulating_plus_spinning +ℤ (f regulating +ℤ f short_term)) ≡ sum_of f (curves version)
over_market version f h = over_all f ∙ sym (summed_over_all version f h)

-- ---- sizes
module _ (c : Case) (h : CaseRanges c) where
  pub requirements_small : (z : ℕ) → z < c.zones → SmallRequirements (zone_requirements_of c z)
  unfolding zone_requirements_of
  requirements_small z n =
      record {
        operating = h.zone_requirement z operating n tt;
        regulating_plus_spinning = h.zone_requirement z regulating_plus_spinning n tt;
        regulating = h.zone_requirement z regulating n tt;
        short_term = h.zone_requirement z short_term n tt;
      }

-- ---- what the records make
module _ (c : Case) (y : Prices) where
  pub zone_value_is : (z : ℕ) → zone_value (reserve_prices_of y (zone_row z)) (zone_requirements_of c z) ≡ sum_of (λ k. y (zone_row z k) *ℤ right_side c (zone_row z k)) zoned_curves
  unfolding zone_value reserve_prices_of zone_requirements_of right_side
  zone_value_is z = over_curves (λ k. y (zone_row z k) *ℤ right_side c (zone_row z k))

  -- the right side is 0 less the limit
  pub flowgate_value_is : (f : ℕ) → y (flowgate_row f) *ℤ (pos 0 -ℤ pos 1000 *ℤ c.flowgate_limit f) ≡ y (flowgate_row f) *ℤ right_side c (flowgate_row f)
  unfolding right_side
  flowgate_value_is f = ring (y (flowgate_row f)) (c.flowgate_limit f)
    where
      ring : (p l : ℤ) → p *ℤ (pos 0 -ℤ pos 1000 *ℤ l) ≡ p *ℤ neg_ℤ (pos 1000 *ℤ l)
      ring p l = simp sorted (simp count (omega arith))

  pub limit_value_is : (i : ℕ) → limit_value (limit_prices_of y i) (limits_of (c.resource i)) ≡ sum_of (λ l. y (limit_row i l) *ℤ right_side c (limit_row i l)) (limits c.version)
  unfolding limit_value limit_prices_of limits_of right_side sum_of
  limit_value_is i =
      ring (y (limit_row i max_with_reserve)) (y (limit_row i max_with_short_term)) (y (limit_row i minimum)) (y (limit_row i high)) (y (limit_row i low))
      (pos (max_of (c.resource i))) (min_of (c.resource i)) (hi_of (c.resource i)) (lo_of (c.resource i))
    where
      ring : (m s n h l M N H L : ℤ) → n *ℤ N +ℤ l *ℤ L -ℤ (m *ℤ M +ℤ s *ℤ M +ℤ h *ℤ H) ≡ m *ℤ neg_ℤ M +ℤ (s *ℤ neg_ℤ M +ℤ (n *ℤ N +ℤ (h *ℤ neg_ℤ H +ℤ (l *ℤ L +ℤ pos 0))))
      ring m s n h l M N H L = simp sorted (simp count (omega arith))

  -- market rows add nothing
  market_terms : sum_of (λ k. y (market_row k) *ℤ right_side c (market_row k)) (curves c.version) ≡ pos 0
  unfolding right_side
  market_terms = sum-ext (λ k. y (market_row k) *ℤ pos 0) (λ k. pos 0) (λ k. *ℤ-zero (y (market_row k))) (curves c.version) ∙ sum-zero (curves c.version)

  without_market : y balance_row *ℤ right_side c balance_row
      +ℤ (sum_of (λ z. sum_of (λ k. y (zone_row z k) *ℤ right_side c (zone_row z k)) zoned_curves) (upto c.zones)
      +ℤ (sum_of (λ f. y (flowgate_row f) *ℤ right_side c (flowgate_row f)) (upto c.flowgates)
      +ℤ sum_of (λ i. sum_of (λ l. y (limit_row i l) *ℤ right_side c (limit_row i l)) (limits c.version)) (upto c.resources)))
      ≡ sum_of (λ r. y r *ℤ right_side c r) (rows c)
  without_market = rw (rows_sum c (λ r. y r *ℤ right_side c r), market_terms, +ℤ_idl)

-- ---- of the bytes
module _ {b q : List ℕ} {r z f : ℕ} (s : PricesStand b q r z f) where
  pub flowgate_side_size : (g : ℕ) → g < f → nat_abs (pos 0 -ℤ pos 1000 *ℤ (case_of b).flowgate_limit g) ≤ 1000 * most_flowgate_limit
  flowgate_side_size g n =
      let l = (case_of b).flowgate_limit g in
      omega (arith, limit_size s g n, abs-mul (pos 1000) l, abs-sub (pos 0) (pos 1000 *ℤ l))

  pub flowgate_room : (g : ℕ) → g < f → ProductRoom ((certificate_of q).price (flowgate_row g)) (pos 0 -ℤ pos 1000 *ℤ (case_of b).flowgate_limit g)
  flowgate_room g n =
      record {
        left = omega (arith, flowgate_size_lem s g n);
        right = omega (arith, flowgate_side_size g n);
        product = omega (arith, mul-le-mul (flowgate_size_lem s g n) (flowgate_side_size g n));
      }

  pub flowgate_term_size : (g : ℕ) → g < f → nat_abs ((certificate_of q).price (flowgate_row g) *ℤ (pos 0 -ℤ pos 1000 *ℤ (case_of b).flowgate_limit g)) ≤ most_flowgate_term
  flowgate_term_size g n =
      omega (
        arith,
        abs-mul ((certificate_of q).price (flowgate_row g)) (pos 0 -ℤ pos 1000 *ℤ (case_of b).flowgate_limit g),
        mul-le-mul (flowgate_size_lem s g n) (flowgate_side_size g n),
      )

  pub balance_room : RowRoom (millicents ((certificate_of q).price balance_row)) (power (case_of b).demand)
  balance_room = record { row_price = balance_size s; right_side = (case_ranges s).demand_to }

-- by the code's counts
pub rows_are : {b q : List ℕ} {r z f : ℕ} → PricesStand b q r z f →
    row_term b q balance_row +ℤ (sum_of (zone_terms b q) (upto z) +ℤ (sum_of (flowgate_term b q) (upto f) +ℤ sum_of (limit_terms b q) (upto r)))
    ≡ sum_of (row_term b q) (rows (case_of b))
rows_are {b} {q} s = rw (zones_is s.case_bytes, flowgates_is s.case_bytes, resources_is s.case_bytes) (without_market (case_of b) (certificate_of q).price)
