use Rattle.std.proofs.Common.{◌∙◌}
use Rattle.market.specs.CaseCheck.{never_falls}
use Rattle.case_soundness.proofs.Steps.{follow_by, follow_signed}
use Rattle.case_check.proofs.offer_step_follows.Goals as goal

pub returns : goal.returns
returns c =
    let step = c.step-step.ensures in
    let next = c.step-next.ensures in
    c.follows.ensures
    ∙ follow_signed c.not_above.result _ _ _ next.number.1
    ∙ rw (c.not_above.ensures, step.width, step.price, next.width, next.price) (follow_by never_falls _ _ _ _)
