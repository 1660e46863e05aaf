use mathlib.Core.Path.{refl}
use native.Mathlib.Omega.{arith}
use lib.ListN.{get_or}
use Rattle.market.specs.Case.{width_of}
use Rattle.case_records.specs.Ranged.{no_step}
use Rattle.limits.proofs.Widths.{width_room, one_width_more}
use Rattle.limits.proofs.total_width.Goals as goal

pub loop-step-init : goal.loop-step-init
unfolding width_of
loop-step-init c = refl

pub sum-sum-requires : goal.sum-sum-requires
sum-sum-requires c = width_room (λ j. get_or c.args.steps.now j no_step) c.requires.0 c.requires.1 (omega arith) c.loop-step.invariant

pub loop-step-preserved : goal.loop-step-preserved
loop-step-preserved c = one_width_more (λ j. get_or c.args.steps.now j no_step) c.requires.0 c.requires.1 (omega arith) c.loop-step.invariant c.sum-sum.ensures
