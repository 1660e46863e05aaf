-- Each charge fits a signed 64-bit number: net price, amount and upper bound are small enough.
use mathlib.Core.List.{List}
use Prim.Native.Nat.{ℕ, ◌<◌}
use native.Mathlib.Omega.{arith}
use Rattle.market.specs.Case.{energy_steps, curve_steps}
use Rattle.market.specs.Cost.{filled}
use Rattle.market.specs.Sizes.{most_power, most_curve_width}
use Rattle.market.specs.Records.{power}
use Rattle.market.proofs.Steps.{filled_below}
use Rattle.market.specs.declared.Step.{Step}
use Rattle.case_records.specs.Ranged.{RangedSteps, RangedCurve, offer_step, curve_step}
use Rattle.costs.specs.Steps.{StepRanges}
use Rattle.limits.specs.Widths.{widths_of}
use Rattle.costs.proofs.Filling.{offer_ranges, curve_ranges}
use Rattle.charges.specs.Sizes.{StepRoom}

-- ---- a step with what fills it of x kW
step_room : {steps : ℕ → Step} {n widest : ℕ} → StepRanges steps n widest → (x j : ℕ) → j < n → StepRoom (steps j) (power (filled (widths_of steps) x j)) widest
step_room {steps} known x j l =
    record {
      step = record { width = (known.width j l).at_most; price = known.price j l };
      part = omega (arith, filled_below (widths_of steps) x j, (known.width j l).at_most);
    }

pub offer_step_room : {o : (List Step)} → RangedSteps o → (x j : ℕ) → j < energy_steps → StepRoom (offer_step o j) (power (filled (widths_of (offer_step o)) x j)) most_power
offer_step_room h = step_room (offer_ranges h)

pub curve_step_room : {o : (List Step)} → RangedCurve o → (x j : ℕ) → j < curve_steps → StepRoom (curve_step o j) (power (filled (widths_of (curve_step o)) x j)) most_curve_width
curve_step_room h = step_room (curve_ranges h)
