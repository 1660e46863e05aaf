use Rattle.std.proofs.Common.{sym, ◌∙◌}
use Rattle.market.specs.CaseFile.{case_of}
use Rattle.market.specs.Records.{counts_in}
use Rattle.market.specs.Refusals.{first_of}
use Rattle.case_check.specs.Stages.{shape_grounds}
use Rattle.case_check.proofs.Passing.{refused_holds, refused_stands, passed_clear, later_grounds, sound_passes}
use Rattle.case_check.proofs.case_stage.Goals as goal

pub returns-in_default : goal.returns-in_default
returns-in_default c =
    let b = c.args.b.now in
    let w = refused_holds (counts_in (case_of b)) c.in_default.field-0 (first_of (shape_grounds b)) (sym c.shape_stage-shape.ensures.answer ∙ cc) in
    rw (refused_stands b _ w) cc

pub returns-then-sound : goal.returns-then-sound
returns-then-sound c =
    let b = c.args.b.now in
    let w = passed_clear (counts_in (case_of b)) c.in-Ok.n (first_of (shape_grounds b)) (sym c.shape_stage-shape.ensures.answer ∙ cc) in
    rw (later_grounds b w.0, sound_passes b (rw c.new-case.ensures.bytes at c.sound.ensures c.if-sound.true)) cc

pub returns : goal.returns
returns c =
    let b = c.args.b.now in
    let w = passed_clear (counts_in (case_of b)) c.in-Ok.n (first_of (shape_grounds b)) (sym c.shape_stage-shape.ensures.answer ∙ cc) in
    rw (later_grounds b w.0) cc
