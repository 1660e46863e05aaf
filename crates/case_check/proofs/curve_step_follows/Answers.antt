use Rattle.std.proofs.Common.{◌∙◌}
use Rattle.market.specs.CaseCheck.{never_rises}
use Rattle.case_soundness.proofs.Steps.{follow_by}
use Rattle.case_check.proofs.curve_step_follows.Goals as goal

pub returns : goal.returns
returns c =
    let step = c.step-step.ensures in
    let next = c.step-next.ensures in
    c.follows.ensures ∙ rw (step.width, step.price, next.width, next.price) (follow_by never_rises _ _ _ _)
