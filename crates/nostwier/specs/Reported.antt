-- What a C host receives from the certificate check, and what it may publish of it.
use Rattle.std.specs.Prelude.{List, ◌≡◌, ℕ}
use Rattle.market.specs.declared.CheckResult.{CheckResult}
use Rattle.market.specs.Refusals.{result_of}
use Rattle.market.specs.Outcome.{outcome}
use Rattle.market.specs.Promise.{Promise}

-- of case bytes b, certificate bytes q and the result
pub record Reported (b q : List ℕ) (result : CheckResult) : Type 0 where
  -- the result is the one that 01 defines
  pub answer : result ≡ result_of (outcome b q)
  -- refusal 0: the certificate is accepted, with these numbers (demand 3)
  pub promise : result.refusal ≡ 0 → Promise b q result.cost result.bound result.gap
