use mathlib.Core.Path.{◌≡◌}
use Rattle.market.specs.Case.{width_of}
use Rattle.market.specs.Records.{power}
use Rattle.case_records.specs.Ranged.{no_step}
use lib.ListN.{get_or}
use Rattle.limits.specs.Widths.{widths_of}
use Rattle.limits.proofs.total_width.Given as goal

abbrev pub invariant-loop-step : goal.invariant-loop-step
invariant-loop-step l = l.sum ≡ power (width_of (widths_of (λ j. get_or l.steps j no_step)) l.step-index)
