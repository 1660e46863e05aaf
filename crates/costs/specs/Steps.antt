-- Steps filled in order, as code goes through them: by value.
use Rattle.std.specs.Prelude.{ℕ, ◌-◌, min, ◌<◌, ◌≤◌, ℤ, pos, nat_abs, ◌*ℤ◌}
use Rattle.arith.specs.Sums.{sum_of, upto}
use Rattle.market.specs.Cost.{filled}
use Rattle.market.specs.Records.{power}
use Rattle.market.specs.declared.Step.{Step}
use Rattle.case_records.specs.Ranged.{UpTo}
use Rattle.limits.specs.Widths.{widths_of}
use Rattle.costs.specs.declared.Filled.{Filled}

-- the most that the steps of an offer or of a curve hold together, in kW
abbrev pub most_in_steps : ℕ
most_in_steps = 32000000

-- of an amount that is left, in kW, what fills a step w wide, and what is left after it
unfoldable pub filling_of : ℕ → ℕ → Filled
filling_of amount w = record { part = power (min w amount); left = power (amount - w) }

-- what fills step j, at the step's price
unfoldable pub step_worth : (ℕ → Step) → ℕ → ℕ → ℤ
step_worth steps amount j = (steps j).price.0 *ℤ pos (filled (widths_of steps) amount j)

-- an amount in kW filled into the first n steps
abbrev pub steps_worth : (ℕ → Step) → ℕ → ℕ → ℤ
steps_worth steps amount n = sum_of (step_worth steps amount) (upto n)

-- n steps, each at most so wide, with prices in their range
pub record StepRanges (steps : ℕ → Step) (n widest : ℕ) : Type 0 where
  pub width : (j : ℕ) → j < n → UpTo (steps j).width.0 widest
  pub price : (j : ℕ) → j < n → nat_abs (steps j).price.0 ≤ 400000
