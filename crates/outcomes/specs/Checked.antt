-- What the certificate check answers, and what an accepted certificate shows: demand 3, from the bytes on.
use Rattle.market.specs.declared.Refusal.{Refusal}
use Rattle.std.specs.Prelude.{Result, Ok, List, ◌≡◌, ℕ, ℤ}
use Rattle.market.specs.declared.Counts.{Counts}
use Rattle.market.specs.declared.Valuation.{Valuation}
use Rattle.market.specs.CaseFile.{case_of}
use Rattle.market.specs.Records.{counts_in}
use Rattle.market.specs.Refusals.{clear, first_of}
use Rattle.market.specs.Outcome.{grounds, outcome, valued}
use Rattle.market.specs.Promise.{Promise}

-- none of 1 to 14 holds of the case bytes b and the certificate bytes q, and these are the case's counts
pub record AcceptedWith (b q : List ℕ) (n : Counts) : Type 0 where
  pub none_holds : first_of (grounds b q) ≡ clear
  pub counts : n ≡ counts_in (case_of b)

-- of case bytes b, certificate bytes q and the result
pub record Checked (b q : List ℕ) (result : (Result Valuation Refusal)) : Type 0 where
  -- the answer is the one that 01 defines
  pub answer : result ≡ outcome b q
  -- accepted: the case is valid, every quantity is within its bound, every row is met, no other schedule within those bounds
  -- and rows costs less than the cost less the gap, and the gap is the sum of the charges, none below zero
  pub promise : (paid least gap : ℤ) → result ≡ Ok (valued paid least gap) → Promise b q paid least gap
