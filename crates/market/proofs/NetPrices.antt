-- Net prices in the words of 01: what the rows take from a quantity, without a sum over all rows.
use mathlib.Core.Path.{◌≡◌, ◌∙◌}
use mathlib.Core.Bool.{Bool, true, false, cond}
use mathlib.Core.List.{List}
use Prim.Native.Nat.{ℕ}
use native.Mathlib.Omega.{arith}
use lib.Dec.{T}
use lib.IntN.{ℤ, pos, neg_ℤ, ◌+ℤ◌, ◌*ℤ◌, ◌-ℤ◌, *ℤ-zero}
use Rattle.arith.specs.Sums.{sum_of, upto}
use Rattle.arith.proofs.Order.{*ℤ-neg}
use Rattle.arith.proofs.Linear.{sorted, count}
use Rattle.arith.proofs.Sums.{sum-ext, sum-neg, sum-zero}
use Rattle.market.specs.Case.{Case, Curve, has_curve, zoned_curves, operating, regulating_plus_spinning, regulating, short_term}
use Rattle.market.specs.UpperBounds.{energy, regulation, contingency, on_line_short_term, off_line_short_term, cleared_quantity}
use Rattle.market.specs.Rows.{balance_row, market_row, zone_row, flowgate_row, limit_row, max_with_reserve, max_with_short_term, minimum, high, low, limits, none, entries, coefficient, is_spinning}
use Rattle.market.specs.Certificate.{Prices}
use Rattle.market.specs.Cost.{priced_energy_step, priced_whole, priced_curve_step, quantity_of, service_price, offer}
use Rattle.market.specs.Bound.{row_value, net_price}
use Rattle.market.specs.Prices.{lmp_of, zone_regulating_price, zone_spinning_price, zone_supplemental_price, zone_short_term_price}
use Rattle.market.specs.InWords.{limit_prices, Placed, NetPricesInWords}
use Rattle.market.proofs.TakenByRows.{rows_sum, taken}
use Rattle.market.proofs.Entries.{*-one, *-none, cleared_price}

-- a flowgate row holds no reserve
no_flow : (y : ℕ → ℤ) (n : ℕ) → sum_of (λ f. y f *ℤ neg_ℤ none) (upto n) ≡ pos 0
unfolding none
no_flow y n = sum-ext (λ f. y f *ℤ pos 0) (λ f. pos 0) (λ f. *ℤ-zero (y f)) (upto n) ∙ sum-zero (upto n)

module _ (c : Case) (y : Prices) (i z : ℕ) (at : Placed c i z) where
  flow_sum : sum_of (λ f. y (flowgate_row f) *ℤ neg_ℤ (c.shift_factor f i)) (upto c.flowgates) ≡ neg_ℤ (sum_of (λ f. y (flowgate_row f) *ℤ c.shift_factor f i) (upto c.flowgates))
  flow_sum = sum-ext _ _ (λ f. *ℤ-neg (y (flowgate_row f)) (c.shift_factor f i)) (upto c.flowgates) ∙ sum-neg (λ f. y (flowgate_row f) *ℤ c.shift_factor f i) (upto c.flowgates)

  energy_net : (j : ℕ) → net_price c y (priced_energy_step i j) ≡ pos 1000 *ℤ (c.resource i).step_price j -ℤ lmp_of c y i +ℤ limit_prices y i
  unfolding net_price quantity_of offer entries lmp_of
  energy_net j =
      rw (taken c y i z at energy, flow_sum, *-one (y balance_row))
      (ring (pos 1000 *ℤ (c.resource i).step_price j) (y balance_row) (sum_of (λ f. y (flowgate_row f) *ℤ c.shift_factor f i) (upto c.flowgates)) (y (limit_row i max_with_reserve)) (y (limit_row i max_with_short_term)) (y (limit_row i minimum)) (y (limit_row i high)) (y (limit_row i low)))
    where
      ring : (p b f m s n h l : ℤ) → p -ℤ (b +ℤ (pos 0 +ℤ (pos 0 +ℤ (neg_ℤ f +ℤ (n +ℤ l -ℤ (m +ℤ s +ℤ h)))))) ≡ p -ℤ (b -ℤ f) +ℤ (m +ℤ s -ℤ n +ℤ h -ℤ l)
      ring p b f m s n h l = simp sorted (simp count (omega arith))

  -- a reserve of a resource: market rows, zone rows, and the resource's own rows
  reserves_sum : (m z l : ℤ) → y balance_row *ℤ none +ℤ (m +ℤ (z +ℤ (sum_of (λ f. y (flowgate_row f) *ℤ neg_ℤ none) (upto c.flowgates) +ℤ l))) ≡ m +ℤ z +ℤ l
  reserves_sum m z l = rw (*-none (y balance_row), no_flow (λ f. y (flowgate_row f)) c.flowgates) (simp sorted (simp count (omega arith)))

  regulation_net : net_price c y (priced_whole i regulation)
      ≡ pos 1000 *ℤ pos (c.resource i).regulating_price -ℤ zone_regulating_price y z +ℤ (y (limit_row i max_with_reserve) +ℤ y (limit_row i minimum))
  unfolding net_price quantity_of offer service_price entries zone_regulating_price
  regulation_net =
      rw (taken c y i z at regulation, reserves_sum (y (market_row operating) +ℤ y (market_row regulating_plus_spinning) +ℤ y (market_row regulating)) (y (zone_row z operating) +ℤ y (zone_row z regulating_plus_spinning) +ℤ y (zone_row z regulating)) (neg_ℤ (y (limit_row i max_with_reserve) +ℤ y (limit_row i minimum))))
      (ring (pos 1000 *ℤ pos (c.resource i).regulating_price) (y (market_row operating)) (y (market_row regulating_plus_spinning)) (y (market_row regulating)) (y (zone_row z operating)) (y (zone_row z regulating_plus_spinning)) (y (zone_row z regulating)) (y (limit_row i max_with_reserve) +ℤ y (limit_row i minimum)))
    where
      ring : (p a b d e f g l : ℤ) → p -ℤ ((a +ℤ b +ℤ d) +ℤ (e +ℤ f +ℤ g) +ℤ neg_ℤ l) ≡ p -ℤ ((a +ℤ e) +ℤ (b +ℤ f) +ℤ (d +ℤ g)) +ℤ l
      ring p a b d e f g l = simp sorted (simp count (omega arith))

  contingency_net : net_price c y (priced_whole i contingency)
      ≡ pos 1000 *ℤ pos (c.resource i).contingency_price -ℤ cond (is_spinning (c.resource i)) (zone_spinning_price y z) (zone_supplemental_price y z) +ℤ y (limit_row i max_with_reserve)
  unfolding net_price quantity_of offer service_price entries zone_spinning_price zone_supplemental_price
  contingency_net =
      rw (taken c y i z at contingency, reserves_sum (y (market_row operating) +ℤ cond (is_spinning (c.resource i)) (y (market_row regulating_plus_spinning)) (pos 0)) (y (zone_row z operating) +ℤ cond (is_spinning (c.resource i)) (y (zone_row z regulating_plus_spinning)) (pos 0)) (neg_ℤ (y (limit_row i max_with_reserve))))
      (by_spinning (is_spinning (c.resource i)) (pos 1000 *ℤ pos (c.resource i).contingency_price) (y (market_row operating)) (y (market_row regulating_plus_spinning)) (y (zone_row z operating)) (y (zone_row z regulating_plus_spinning)) (y (limit_row i max_with_reserve)))
    where
      by_spinning : (t : Bool) (p a b e f l : ℤ) → p -ℤ ((a +ℤ cond t b (pos 0)) +ℤ (e +ℤ cond t f (pos 0)) +ℤ neg_ℤ l) ≡ p -ℤ cond t ((a +ℤ e) +ℤ (b +ℤ f)) (a +ℤ e) +ℤ l
      by_spinning true p a b e f l = simp sorted (simp count (omega arith))
      by_spinning false p a b e f l = simp sorted (simp count (omega arith))

  on_line_net : net_price c y (priced_whole i on_line_short_term) ≡ y (limit_row i max_with_short_term) -ℤ zone_short_term_price y z
  unfolding net_price quantity_of offer service_price entries zone_short_term_price
  on_line_net =
      rw (taken c y i z at on_line_short_term, reserves_sum (y (market_row short_term)) (y (zone_row z short_term)) (neg_ℤ (y (limit_row i max_with_short_term))))
      (ring (y (market_row short_term)) (y (zone_row z short_term)) (y (limit_row i max_with_short_term)))
    where
      ring : (a b l : ℤ) → pos 0 -ℤ (a +ℤ b +ℤ neg_ℤ l) ≡ l -ℤ (a +ℤ b)
      ring a b l = simp sorted (simp count (omega arith))

  off_line_net : net_price c y (priced_whole i off_line_short_term) ≡ pos 1000 *ℤ pos (c.resource i).off_line_short_term_price -ℤ zone_short_term_price y z
  unfolding net_price quantity_of offer service_price entries zone_short_term_price
  off_line_net =
      rw (taken c y i z at off_line_short_term, reserves_sum (y (market_row short_term)) (y (zone_row z short_term)) (pos 0))
      (ring (pos 1000 *ℤ pos (c.resource i).off_line_short_term_price) (y (market_row short_term)) (y (zone_row z short_term)))
    where
      ring : (p a b : ℤ) → p -ℤ (a +ℤ b +ℤ pos 0) ≡ p -ℤ (a +ℤ b)
      ring p a b = simp sorted (simp count (omega arith))

-- ---- a cleared quantity stands in its market row alone
module _ (c : Case) (y : Prices) where
  no_terms : {A : Type 0} (p : A → ℤ) (xs : List A) → sum_of (λ a. p a *ℤ none) xs ≡ pos 0
  no_terms p xs = sum-ext (λ a. p a *ℤ none) (λ a. pos 0) (λ a. *-none (p a)) xs ∙ sum-zero xs

  cleared_taken : (k : Curve) → T (has_curve c.version k) → row_value c y (cleared_quantity k) ≡ neg_ℤ (y (market_row k))
  unfolding row_value coefficient
  cleared_taken k t =
      rows_sum c (λ r. y r *ℤ coefficient c r (cleared_quantity k))
      ∙ rw (*-none (y balance_row), cleared_price c.version (λ l. y (market_row l)) k t, zones, no_terms (λ f. y (flowgate_row f)) (upto c.flowgates), own) (ring (neg_ℤ (y (market_row k))))
    where
      zones : sum_of (λ z. sum_of (λ l. y (zone_row z l) *ℤ none) zoned_curves) (upto c.zones) ≡ pos 0
      zones = sum-ext _ (λ z. pos 0) (λ z. no_terms (λ l. y (zone_row z l)) zoned_curves) (upto c.zones) ∙ sum-zero (upto c.zones)

      own : sum_of (λ i. sum_of (λ l. y (limit_row i l) *ℤ none) (limits c.version)) (upto c.resources) ≡ pos 0
      own = sum-ext _ (λ i. pos 0) (λ i. no_terms (λ l. y (limit_row i l)) (limits c.version)) (upto c.resources) ∙ sum-zero (upto c.resources)

      ring : (a : ℤ) → pos 0 +ℤ (a +ℤ (pos 0 +ℤ (pos 0 +ℤ pos 0))) ≡ a
      ring a = simp sorted (simp count (omega arith))

  curve_net : (k : Curve) → T (has_curve c.version k) → (j : ℕ) → net_price c y (priced_curve_step k j) ≡ y (market_row k) -ℤ pos 1000 *ℤ pos (c.curve_price k j)
  unfolding net_price quantity_of offer
  curve_net k t j = rw (cleared_taken k t) (ring (pos (c.curve_price k j)) (y (market_row k)))
    where
      ring : (p a : ℤ) → pos 1000 *ℤ neg_ℤ p -ℤ neg_ℤ a ≡ a -ℤ pos 1000 *ℤ p
      ring p a = simp sorted (simp count (omega arith))

pub net_prices_in_words : (c : Case) (y : Prices) → NetPricesInWords c y
net_prices_in_words c y =
    record {
      energy_step = λ i j z at. energy_net c y i z at j;
      regulation_price = λ i z at. regulation_net c y i z at;
      contingency_price = λ i z at. contingency_net c y i z at;
      on_line_short_term = λ i z at. on_line_net c y i z at;
      off_line_short_term = λ i z at. off_line_net c y i z at;
      curve_step = curve_net c y;
    }
