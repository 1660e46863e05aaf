-- Every sum fits a signed 64-bit number (01, 'The case file': 'that is shown, not assumed'; 02, request 9: 'every bound on sums is
-- restated with 12'): of a valid case and a certificate whose prices are in range and whose quantities are within their bounds.
use Rattle.std.specs.Prelude.{List, ◌≡◌, ℕ, ◌+◌, ◌*◌, ◌<◌, ◌≤◌, T, ℤ, pos, nat_abs, ◌*ℤ◌}
use Rattle.arith.specs.Sums.{size_of, Each, all, upto}
use Rattle.market.specs.declared.Refusal.TheVariants.{AboveBound}
use Rattle.market.specs.Case.{Case, zoned_curves, curves, reserves, energy_steps, curve_steps}
use Rattle.market.specs.CaseFile.{case_of}
use Rattle.market.specs.UpperBounds.{quantities, Schedule}
use Rattle.market.specs.Rows.{rows, coefficient, right_side, balance_row, market_row, zone_row, flowgate_row, slack, left_side}
use Rattle.market.specs.Certificate.{Prices, certificate_of}
use Rattle.market.specs.Cost.{priced_energy_step, priced, quantity_of, offer, priced_upper_bound, part, cost}
use Rattle.market.specs.Bound.{net_price, lowest, bound}
use Rattle.market.specs.Charges.{gap, priced_charge, charges}
use Rattle.market.specs.Prices.{lmp_of, zone_prices}
use Rattle.market.specs.Refusals.{first_failing, clear}
use Rattle.market.specs.Outcome.{Valid, price_right, within_bound}

-- 2^63
abbrev pub range64 : ℕ
range64 = 9223372036854775808

abbrev pub Fits64 : ℤ → Type 0
Fits64 v = nat_abs v < range64

-- the terms' absolute values together: so every sum of some of the terms fits, in whatever order it is formed
module _ {A : Type 0} where
  abbrev pub TermsFit : (A → ℤ) → List A → Type 0
  TermsFit term es = size_of term es < range64

  -- and with one number more
  abbrev pub TermsFitWith : ℤ → (A → ℤ) → List A → Type 0
  TermsFitWith v term es = nat_abs v + size_of term es < range64

pub record SumsFit (c : Case) (x : Schedule) (y : Prices) : Type 0 where
  -- HI = initial + 5 × ramp up; of LO, initial - 5 × ramp down, the two together
  pub high_fits : Each (λ i. Fits64 (pos ((c.resource i).initial + 5 * (c.resource i).ramp_up))) (upto c.resources)
  pub low_terms : Each (λ i. Fits64 (pos ((c.resource i).initial + 5 * (c.resource i).ramp_down))) (upto c.resources)
  -- the sums of step widths, a resource's and a curve's
  pub energy_widths : Each (λ i. TermsFit (λ j. pos ((c.resource i).step_width j)) (upto energy_steps)) (upto c.resources)
  pub curve_widths : Each (λ k. TermsFit (λ j. pos (c.curve_width k j)) (upto curve_steps)) (curves c.version)
  -- RAMP = ramp rate × t × 1000 / m and SHARE = share × requirement / 1000: the products, before they are divided
  pub ramp_products : Each (λ reserve. Each (λ i. Fits64 (pos ((c.resource i).ramp_rate * c.minutes reserve * 1000))) (upto c.resources)) reserves
  pub share_products : Each (λ reserve. Fits64 (pos (c.share reserve * c.requirement reserve))) reserves
  -- cost
  pub cost_terms : TermsFit (λ p. pos 1000 *ℤ (offer c p *ℤ pos (part c x p))) (priced c)
  pub cost_fits : Fits64 (cost c x)
  -- each row: its left side, and its slack, left side less right side (a flowgate's is 1000 × limit)
  pub slack_terms : Each (λ row. TermsFitWith (right_side c row) (λ a. coefficient c row a *ℤ pos (x a)) (quantities c)) (rows c)
  pub left_fits : Each (λ row. Fits64 (left_side c x row)) (rows c)
  pub slack_fits : Each (λ row. Fits64 (slack c x row)) (rows c)
  -- each net price: 1000 × its price less, over all rows, row price × coefficient
  pub offer_fits : Each (λ p. Fits64 (pos 1000 *ℤ offer c p)) (priced c)
  pub net_terms : Each (λ p. TermsFitWith (pos 1000 *ℤ offer c p) (λ row. y row *ℤ coefficient c row (quantity_of p)) (rows c)) (priced c)
  pub net_fits : Each (λ p. Fits64 (net_price c y p)) (priced c)
  -- the bound: all of its terms together
  pub product_terms : TermsFit (λ p. net_price c y p *ℤ pos (priced_upper_bound c p)) (priced c)
  pub bound_terms : (size_of (λ row. y row *ℤ right_side c row) (rows c) + size_of (lowest c y) (priced c)) < range64
  pub bound_fits : Fits64 (bound c y)
  pub gap_fits : Fits64 (gap c x y)
  -- each charge, and of a priced quantity's the product net price × amount
  pub charge_products : Each (λ p. Fits64 (net_price c y p *ℤ pos (part c x p))) (priced c)
  pub charge_fits : Each (λ v. Fits64 v) (charges c x y)
  -- prices: an LMP is row 1's price less the sum of flowgate price × factor; zone prices add market rows and zone rows
  pub lmp_terms : Each (λ i. TermsFitWith (y balance_row) (λ f. y (flowgate_row f) *ℤ c.shift_factor f i) (upto c.flowgates)) (upto c.resources)
  pub lmp_fits : Each (λ i. Fits64 (lmp_of c y i)) (upto c.resources)
  pub zone_price_terms : Each (λ z. (size_of (λ k. y (market_row k)) zoned_curves + size_of (λ k. y (zone_row z k)) zoned_curves) < range64) (upto c.zones)
  pub zone_prices_fit : Each (λ z. Each (λ v. Fits64 v) (zone_prices y z)) (upto c.zones)

-- how large those are that grow with the flowgates: the figures of 64 resources, 8 zones and 12 flowgates
pub record SumsAtMost (c : Case) (x : Schedule) (y : Prices) : Type 0 where
  -- in thousandths of a cent: an LMP has row 1 and 12 flowgates, 400,000,000 each; an energy step's net price besides its offer
  -- and its resource's five rows; the terms of any net price its offer and all 369 rows
  pub lmp_terms_most : Each (λ i. (nat_abs (y balance_row) + size_of (λ f. y (flowgate_row f) *ℤ c.shift_factor f i) (upto c.flowgates)) ≤ 5200000000) (upto c.resources)
  pub lmp_most : Each (λ i. nat_abs (lmp_of c y i) ≤ 5200000000) (upto c.resources)
  pub energy_net_most : Each (λ i. Each (λ j. nat_abs (net_price c y (priced_energy_step i j)) ≤ 7600000000) (upto energy_steps)) (upto c.resources)
  pub net_terms_most : Each (λ p. (nat_abs (pos 1000 *ℤ offer c p) + size_of (λ row. y row *ℤ coefficient c row (quantity_of p)) (rows c)) ≤ 148000000000) (priced c)
  -- in grains: an energy step's charge, twice its net price × 2,000,000 kW
  pub energy_charge_most : Each (λ i. Each (λ j. nat_abs (priced_charge c x y (priced_energy_step i j)) ≤ 30400000000000000) (upto energy_steps)) (upto c.resources)
  -- row price × right side over all rows, net price × upper bound over all that is priced, and their sum
  pub row_terms_most : size_of (λ row. y row *ℤ right_side c row) (rows c) ≤ 480000000000000000
  pub product_terms_most : size_of (λ p. net_price c y p *ℤ pos (priced_upper_bound c p)) (priced c) ≤ 2150400000000000000
  pub bound_most : nat_abs (bound c y) ≤ 2630400000000000000
  -- with the cost, which has no flowgates
  pub cost_most : nat_abs (cost c x) ≤ 307200000000000000
  pub gap_most : nat_abs (gap c x y) ≤ 2937600000000000000

-- past 12 and 13
abbrev pub SumsFitTheorem : Type 0
SumsFitTheorem =
    (b q : List ℕ) → Valid b → T (all (price_right (certificate_of q)) (rows (case_of b))) →
    first_failing (within_bound (case_of b) (certificate_of q)) AboveBound 1 (quantities (case_of b)) ≡ clear →
    SumsFit (case_of b) (certificate_of q).amount (certificate_of q).price × SumsAtMost (case_of b) (certificate_of q).amount (certificate_of q).price
