-- A resource that is not on-line: its steps are worth nothing, and the least that they add is 0.
use mathlib.Core.Path.{◌≡◌, sym, ap, ◌∙◌}
use mathlib.Core.Bool.{false}
use mathlib.Core.List.{List}
use Prim.Native.Nat.{ℕ}
use native.Mathlib.Omega.{arith}
use lib.IntN.{pos, ◌+ℤ◌, ◌*ℤ◌, *ℤ-zero}
use Rattle.arith.specs.Sums.{min_ℤ, sum_of, upto}
use Rattle.arith.proofs.Sums.{sum-ext, sum-zero}
use Rattle.market.specs.Records.{grains}
use Rattle.market.specs.declared.Kw.{Kw}
use Rattle.market.specs.declared.Step.{Step}
use Rattle.limits.specs.Widths.{widths_of}
use Rattle.market.specs.declared.PerService.{PerService}
use Rattle.market.specs.declared.Millicents.{Millicents}
use Rattle.case_records.specs.Ranged.{offer_step}
use Rattle.costs.specs.Steps.{step_worth, steps_worth}
use Rattle.costs.specs.Worth.{thousands}
use Rattle.costs.proofs.OffLine.{nothing_filled}
use Rattle.bounds.specs.Terms.{step_least}
use Rattle.valuations.specs.Values.{StepsValued}

step_worthless : (steps : ℕ → Step) (j : ℕ) → step_worth steps 0 j ≡ pos 0
unfolding step_worth
step_worthless steps j = rw (nothing_filled (widths_of steps) j) (*ℤ-zero (steps j).price.0)

pub nothing_worth : (steps : ℕ → Step) (n : ℕ) → steps_worth steps 0 n ≡ pos 0
nothing_worth steps n = sum-ext (step_worth steps 0) (λ j. pos 0) (step_worthless steps) (upto n) ∙ sum-zero (upto n)

step_adds_nothing : (nets : PerService Millicents) (step : Step) → step_least nets false step ≡ pos 0
unfolding step_least min_ℤ
step_adds_nothing nets step = rw (*ℤ-zero (pos 1000 *ℤ step.price.0 +ℤ nets.energy.0))

pub nothing_least : (nets : PerService Millicents) (steps : ℕ → Step) (n : ℕ) → sum_of (λ j. step_least nets false (steps j)) (upto n) ≡ pos 0
nothing_least nets steps n = sum-ext (λ j. step_least nets false (steps j)) (λ j. pos 0) (λ j. step_adds_nothing nets (steps j)) (upto n) ∙ sum-zero (upto n)

pub off_line_valued : (steps : (List Step)) (nets : PerService Millicents) (amount : Kw) → amount.0 ≡ pos 0 → StepsValued false steps nets amount (record { worth = thousands (pos 0); least = grains (pos 0) })
off_line_valued steps nets amount e =
    record {
      worth_is = ap thousands (sym (rw e (nothing_worth (offer_step steps) 10)));
      least_is = record { is = sym (nothing_least nets (offer_step steps) 10); size = omega arith };
    }
