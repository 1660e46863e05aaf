use Rattle.std.specs.Prelude.{Ok, Err}
use mathlib.Core.Path.{◌≡◌, sym, ◌∙◌}
use Rattle.market.specs.CaseFile.{case_of}
use Rattle.market.specs.Certificate.{certificate_of}
use Rattle.market.specs.Records.{counts_in}
use Rattle.market.specs.Refusals.{answered, first_of}
use Rattle.market.specs.Outcome.{case_grounds, form_grounds, grounds_to11}
use Rattle.case_check.proofs.Passing.{passed_bytes, passed_counts}
use Rattle.quantities.proofs.Passing.{stays, goes_on, filed}
use Rattle.quantities.proofs.form_stage.Goals as goal
use Rattle.quantities.proofs.form_stage.Goals.{In-Ok}

passed : (c : In-Ok) → answered (counts_in (case_of c.args.b.now)) (first_of (case_grounds c.args.b.now)) ≡ Ok c.in-Ok.n
passed c = sym c.case_stage-earlier.ensures ∙ cc

pub returns-in_default-clause-answer : goal.returns-in_default-clause-answer
unfolding grounds_to11
returns-in_default-clause-answer c =
    let b = c.args.b.now in
    let e : c.case_stage-earlier.result ≡ Err c.in_default.field-0 = cc in
    e ∙ sym (stays (counts_in (case_of b)) (case_grounds b) (form_grounds (case_of b) c.args.q.now (certificate_of c.args.q.now)) _ (sym c.case_stage-earlier.ensures ∙ e))

pub form-requires : goal.form-requires
form-requires c = (passed_bytes _ _ (passed (goal.at.form-requires c).In-Ok)).counts

pub returns-clause-answer : goal.returns-clause-answer
unfolding grounds_to11
returns-clause-answer c =
    let b = c.args.b.now in
    let p = passed (goal.at.returns-clause-answer c).In-Ok in
    c.form.ensures _ (passed_counts _ _ p) ∙ sym (goes_on (counts_in (case_of b)) (case_grounds b) (form_grounds (case_of b) c.args.q.now (certificate_of c.args.q.now)) _ p)

pub returns-clause-filed : goal.returns-clause-filed
returns-clause-filed c = let p = passed (goal.at.returns-clause-filed c).In-Ok in filed _ _ _ _ p (c.form.ensures _ (passed_counts _ _ p))
