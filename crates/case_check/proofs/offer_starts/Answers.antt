use Rattle.std.proofs.Common.{◌∙◌, true}
use Rattle.case_soundness.proofs.Steps.{follow_signed}
use Rattle.case_check.proofs.offer_starts.Goals as goal

pub returns : goal.returns
returns c =
    let step = c.step.ensures in
    c.starts.ensures ∙ follow_signed true 1 _ _ step.number.1 ∙ rw (step.width, step.price)
