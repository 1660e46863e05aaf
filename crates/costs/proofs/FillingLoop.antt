-- A loop that fills n steps in order out of x kW and sums what they are worth: before the first turn, in a turn.
-- Its invariant is `StepsFilled`; `LeftAfter` alone serves a loop that makes something else of what fills a step.
use mathlib.Core.Path.{◌≡◌, refl, ap, ◌∙◌}
use Prim.Native.Nat.{ℕ, ◌+◌, ◌-◌, ◌<◌, ◌≤◌}
use lib.IntN.{pos, nat_abs, ◌+ℤ◌, ◌*ℤ◌}
use Rattle.arith.proofs.LoopSums.{SumTo, no_turn_yet, one_turn_more}
use Rattle.market.specs.Case.{width_of}
use Rattle.market.specs.Cost.{filled}
use Rattle.market.specs.Records.{power}
use Rattle.market.specs.declared.Kw.{Kw}
use Rattle.market.specs.declared.Step.{Step}
use Rattle.case_records.specs.Ranged.{UpTo}
use Rattle.limits.specs.Widths.{widths_of}
use Rattle.units.specs.Room.{SumRoom, ProductRoom}
use Rattle.costs.specs.Steps.{most_in_steps, filling_of, step_worth, StepRanges}
use Rattle.costs.specs.Worth.{thousands}
use Rattle.costs.specs.declared.Filled.{Filled}
use Rattle.costs.specs.declared.ThousandGrains.{ThousandGrains}
use Rattle.costs.proofs.Filling.{before_steps, next_step, step_room, steps_room}

-- what the first j steps leave of x
abbrev pub LeftAfter : (ℕ → Step) → ℕ → ℕ → Kw → Type 0
LeftAfter steps x j left = left ≡ power (x - width_of (widths_of steps) j)

-- what they are worth
abbrev pub WorthTo : (ℕ → Step) → ℕ → ℕ → ℕ → ThousandGrains → Type 0
WorthTo steps x n j total = SumTo thousands (λ g. g.0) (λ v. refl) (step_worth steps x) n j total

abbrev pub StepsFilled : (ℕ → Step) → ℕ → ℕ → ℕ → Kw → ThousandGrains → Type 0
StepsFilled steps x n j left total = LeftAfter steps x j left × WorthTo steps x n j total

-- ---- before the first turn
pub none_filled : {a : Kw} {m : ℕ} (steps : ℕ → Step) (n : ℕ) → UpTo a.0 m → StepsFilled steps (nat_abs a.0) n 0 a (thousands (pos 0))
none_filled {a} steps n h = (before_steps (widths_of steps) h, no_turn_yet thousands (λ g. g.0) (λ v. refl) (step_worth steps (nat_abs a.0)) n)

-- ---- in a turn
module _ {steps : ℕ → Step} {n widest : ℕ} (known : StepRanges steps n widest) (few : n ≤ 16) (small : widest ≤ most_in_steps) (x j : ℕ) {left : Kw} (so_far : LeftAfter steps x j left) (turn : j < n) where
  module _ {filling : Filled} (e : filling ≡ filling_of (nat_abs left.0) (widths_of steps j)) where
    pub filling_is : filling ≡ (record { part = power (filled (widths_of steps) x j); left = power (x - width_of (widths_of steps) (j + 1)) })
    filling_is = e ∙ rw so_far (next_step (widths_of steps) x j)

    pub left_more : LeftAfter steps x (j + 1) filling.left
    left_more = ap (λ (a : Filled). a.left) filling_is

    pub part_room : ProductRoom (steps j).price.0 filling.part.0
    part_room = rw filling_is (step_room known few small x j turn)

    module _ {value total : ThousandGrains} (v : value ≡ thousands ((steps j).price.0 *ℤ filling.part.0)) (sum : WorthTo steps x n j total) where
      worth_is : value ≡ thousands (step_worth steps x j)
      unfolding step_worth
      worth_is = v ∙ rw filling_is

      pub worth_room : SumRoom total.0 value.0
      worth_room = rw (sum.1, worth_is) (steps_room known few small x j turn)

      pub one_filled : {next : ThousandGrains} → next ≡ thousands (total.0 +ℤ value.0) → StepsFilled steps x n (j + 1) filling.left next
      one_filled k = (left_more, one_turn_more thousands (λ g. g.0) (λ v. refl) (step_worth steps x) {n = n} {j = j} sum turn worth_is k)
