-- Demand 3: what an accepted certificate shows, from the bytes of the case and of the certificate on. A field a sentence.
use Rattle.std.specs.Prelude.{Ok}
use Rattle.std.specs.Prelude.{List, ◌++◌, ◌↔◌, ◌≡◌, ℕ, length, drop, ℤ, pos, ◌-ℤ◌, ◌≤ℤ◌}
use Rattle.arith.specs.Sums.{sum_of, Each}
use Rattle.market.specs.CaseFile.{case_of}
use Rattle.market.specs.UpperBounds.{Schedule}
use Rattle.market.specs.Rows.{Bounded, Met}
use Rattle.market.specs.Certificate.{certificate_of}
use Rattle.market.specs.Cost.{cost}
use Rattle.market.specs.Bound.{bound}
use Rattle.market.specs.Charges.{charge_count}
use Rattle.market.specs.Outcome.{Valid, outcome, valued, listed_charges, charge_answer, charge_buffer}

-- of case bytes b, certificate bytes q, and the three numbers of success
pub record Promise (b q : List ℕ) (paid lowerBound gap : ℤ) : Type 0 where
  -- the case is valid
  pub valid : Valid b
  -- every quantity is within its bound
  pub bounded : Bounded (case_of b) (certificate_of q).amount
  -- every row is met
  pub met : Met (case_of b) (certificate_of q).amount
  -- the three numbers are the schedule's cost, the prices' bound, and their difference
  pub paid_is : paid ≡ cost (case_of b) (certificate_of q).amount
  pub lower_bound_is : lowerBound ≡ bound (case_of b) (certificate_of q).price
  pub gap_is : gap ≡ paid -ℤ lowerBound
  -- every other schedule within those bounds and rows costs at least the accepted cost less the gap
  pub no_cheaper : (other : Schedule) → Bounded (case_of b) other → Met (case_of b) other → (paid -ℤ gap) ≤ℤ cost (case_of b) other
  -- the gap is the sum of the listed charges, one for each row and each priced quantity
  pub charge_count_lem : length (listed_charges b q) ≡ charge_count (case_of b)
  pub gap_is_charges : gap ≡ sum_of (λ v. v) (listed_charges b q)
  -- none of them is below zero
  pub none_negative : Each (λ v. pos 0 ≤ℤ v) (listed_charges b q)
  -- it is 0 exactly when each is 0
  pub zero_gap : (gap ≡ pos 0) ↔ Each (λ v. v ≡ pos 0) (listed_charges b q)
  -- they are the numbers that the call for charges writes
  pub written : (buffer : List ℤ) → charge_answer b q (length buffer) ≡ Ok tt → charge_buffer b q buffer ≡ listed_charges b q ++ drop (charge_count (case_of b)) buffer

abbrev pub Demand3 : Type 0
Demand3 = (b q : List ℕ) (paid lowerBound gap : ℤ) → outcome b q ≡ Ok (valued paid lowerBound gap) → Promise b q paid lowerBound gap
