-- Demand 3: what an accepted certificate shows.
use Rattle.std.specs.Prelude.{Ok}
use mathlib.Core.Path.{◌≡◌, sym, ◌∙◌, ap}
use mathlib.Core.List.{List, ◌++◌}
use mathlib.Core.Logic.{◌↔◌}
use Prim.Native.Nat.{ℕ}
use native.Mathlib.Omega.{arith}
use lib.IntN.{ℤ, pos, ◌-ℤ◌}
use lib.ListN.{length, drop}
use lib.Signed.{◌≤ℤ◌, le_z}
use Rattle.arith.specs.Sums.{sum_of, Each}
use Rattle.arith.proofs.Linear.{sorted, count}
use Rattle.arith.proofs.Lists.{each_imp, each_split}
use Rattle.arith.proofs.AllTests.{all-each, and_split}
use Rattle.arith.proofs.Duality as D
use Rattle.market.specs.declared.Refusal.TheVariants.{RowBroken}
use Rattle.market.specs.declared.Valuation.{Valuation}
use Rattle.market.specs.Case.{Case}
use Rattle.market.specs.CaseFile.{case_of}
use Rattle.market.specs.UpperBounds.{Schedule}
use Rattle.market.specs.Rows.{Sense, equal, at_least, rows, sense, slack, Bounded, Met}
use Rattle.market.specs.Certificate.{Certificate, Prices, certificate_of, lowest_price, highest_price}
use Rattle.market.specs.Cost.{cost}
use Rattle.market.specs.Bound.{bound}
use Rattle.market.specs.Charges.{charges, charge_count}
use Rattle.market.specs.Refusals.{Finding, clear, first_of, buffer_after, AllClear}
use Rattle.market.specs.Outcome.{outcome, grounds, valued, valuation, case_grounds, certificate_grounds, price_right, row_met, listed_charges, charge_grounds, charge_answer, charge_buffer}
use Rattle.market.specs.Promise.{Demand3}
use Rattle.market.proofs.CaseLinearProgramme.{programme, parts, PriceMay, PricesMay, cost_is, bound_is, charges_are, feasible}
use Rattle.market.proofs.Lengths.{charge_count_lem}
use Rattle.market.proofs.Grounds.{answered_ok, none_holds, none_fails, meets_Meets}
use Rattle.market.proofs.Passed.{CertificatePassed, certificate_passed}
use Rattle.market.proofs.Ranges.{bounded}

-- ---- of a case, row prices that may stand, and a schedule
module _ (c : Case) (y : Prices) (may : PricesMay c y) where
  pub bound_below : (z : Schedule) → Bounded c z → Met c z → bound c y ≤ℤ cost c z
  bound_below z v m = rw (bound_is c y, cost_is c z) at (D.weak (programme c) y (parts c z) (feasible c z y may v m))

  module _ (x : Schedule) (v : Bounded c x) where
    pub charges_sum : cost c x -ℤ bound c y ≡ sum_of (λ a. a) (charges c x y)
    charges_sum = rw (bound_is c y, cost_is c x, charges_are c x y v) at (D.charges_sum (programme c) y (parts c x))

    module _ (m : Met c x) where
      pub charges_nonneg : Each (λ a. pos 0 ≤ℤ a) (charges c x y)
      charges_nonneg = rw (charges_are c x y v) at (D.charges_nonneg (programme c) y (parts c x) (feasible c x y may v m))

      pub zero_gap : (cost c x -ℤ bound c y ≡ pos 0) ↔ Each (λ a. a ≡ pos 0) (charges c x y)
      zero_gap = rw (bound_is c y, cost_is c x, charges_are c x y v) at (D.zero_gap (programme c) y (parts c x) (feasible c x y may v m))

-- ---- what grounds 12, 13 and 14 leave
price_may : (s : Sense) (most : ℕ) (v : ℤ) → lowest_price s most ≤ℤ v → PriceMay s v
price_may equal most v h = tt
price_may at_least most v h = h

module _ (c : Case) (q : List ℕ) (k : Certificate) (h : CertificatePassed c q k) where
  prices_may : PricesMay c k.price
  prices_may =
      each_imp
      (λ r t. price_may (sense r) (highest_price r) (k.price r) (record { le = (and_split (le_z (lowest_price (sense r) (highest_price r)) (k.price r)) (le_z (k.price r) (pos (highest_price r))) t).0 }))
      (rows c) (all-each (price_right k) (rows c) h.prices_right)

  rows_met : Met c k.amount
  rows_met = each_imp (λ r t. meets_Meets (sense r) (slack c k.amount r) t) (rows c) (none_fails (row_met c k) RowBroken 1 (rows c) h.rows_met)

less_gap : (a b : ℤ) → a -ℤ (a -ℤ b) ≡ b
less_gap a b = simp sorted (simp count (omega arith))

module _ (b q : List ℕ) (paid lowerBound gap : ℤ) (e : outcome b q ≡ Ok (valued paid lowerBound gap)) where
  is : (first_of (grounds b q) ≡ clear) × (valuation (case_of b) (certificate_of q) ≡ valued paid lowerBound gap)
  unfolding outcome
  is = answered_ok (valuation (case_of b) (certificate_of q)) (valued paid lowerBound gap) (first_of (grounds b q)) e

  clear_both : AllClear (case_grounds b) × AllClear (certificate_grounds (case_of b) q (certificate_of q))
  clear_both = each_split (λ g. g ≡ clear) (case_grounds b) (certificate_grounds (case_of b) q (certificate_of q)) (none_holds (grounds b q) is.0)

  passed : CertificatePassed (case_of b) q (certificate_of q)
  passed = certificate_passed (case_of b) q (certificate_of q) clear_both.1

  v : Bounded (case_of b) (certificate_of q).amount
  v = bounded (case_of b) (certificate_of q) passed.amounts_within

  m : Met (case_of b) (certificate_of q).amount
  m = rows_met (case_of b) q (certificate_of q) passed

  s : PricesMay (case_of b) (certificate_of q).price
  s = prices_may (case_of b) q (certificate_of q) passed

  paid_is : paid ≡ cost (case_of b) (certificate_of q).amount
  unfolding valuation
  paid_is = sym (ap (λ (w : Valuation). w.cost.0) is.1)

  lower_bound_is : lowerBound ≡ bound (case_of b) (certificate_of q).price
  unfolding valuation
  lower_bound_is = sym (ap (λ (w : Valuation). w.bound.0) is.1)

  gap_is : gap ≡ cost (case_of b) (certificate_of q).amount -ℤ bound (case_of b) (certificate_of q).price
  unfolding valuation
  gap_is = sym (ap (λ (w : Valuation). w.gap.0) is.1)

  listed_count : length (listed_charges b q) ≡ charge_count (case_of b)
  listed_count = charge_count_lem (case_of b) (certificate_of q).amount (certificate_of q).price

  written : (buffer : List ℤ) → charge_answer b q (length buffer) ≡ Ok tt → charge_buffer b q buffer ≡ listed_charges b q ++ drop (charge_count (case_of b)) buffer
  unfolding charge_answer charge_buffer
  written buffer d =
      ap (λ (f : Finding). buffer_after f (listed_charges b q) buffer) (answered_ok {A = Unit {0}} tt tt (first_of (charge_grounds b q (length buffer))) d).0
      ∙ ap (λ (n : ℕ). listed_charges b q ++ drop n buffer) listed_count

pub demand3 : Demand3
demand3 b q paid lowerBound gap e =
    record {
      valid = (clear_both b q paid lowerBound gap e).0;
      bounded = v b q paid lowerBound gap e;
      met = m b q paid lowerBound gap e;
      paid_is = paid_is b q paid lowerBound gap e;
      lower_bound_is = lower_bound_is b q paid lowerBound gap e;
      gap_is = rw (paid_is b q paid lowerBound gap e, lower_bound_is b q paid lowerBound gap e) (gap_is b q paid lowerBound gap e);
      no_cheaper = λ z vz mz.
          rw (paid_is b q paid lowerBound gap e, gap_is b q paid lowerBound gap e, less_gap)
          (bound_below (case_of b) (certificate_of q).price (s b q paid lowerBound gap e) z vz mz);
      charge_count_lem = listed_count b q paid lowerBound gap e;
      gap_is_charges =
          gap_is b q paid lowerBound gap e
          ∙ charges_sum (case_of b) (certificate_of q).price (s b q paid lowerBound gap e) (certificate_of q).amount (v b q paid lowerBound gap e);
      none_negative = charges_nonneg (case_of b) (certificate_of q).price (s b q paid lowerBound gap e) (certificate_of q).amount (v b q paid lowerBound gap e) (m b q paid lowerBound gap e);
      zero_gap =
          rw (gap_is b q paid lowerBound gap e)
          (zero_gap (case_of b) (certificate_of q).price (s b q paid lowerBound gap e) (certificate_of q).amount (v b q paid lowerBound gap e) (m b q paid lowerBound gap e));
      written = written b q paid lowerBound gap e;
    }
