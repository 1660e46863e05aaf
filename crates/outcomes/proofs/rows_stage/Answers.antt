use Rattle.std.specs.Prelude.{Some, None, Ok, Err}
use mathlib.Core.Path.{◌≡◌, refl, sym, ◌∙◌}
use Rattle.market.specs.CaseFile.{case_of}
use Rattle.market.specs.Records.{counts_in}
use Rattle.market.specs.Refusals.{answered, first_of}
use Rattle.market.specs.Certificate.{certificate_of}
use Rattle.market.specs.Outcome.{grounds_to13, row_ground}
use Rattle.std.proofs.Common.{List, ℕ}
use Rattle.outcomes.proofs.Files.{of_files}
use Rattle.quantities.proofs.Passing.{passed_standing, undecided}
use Rattle.outcomes.proofs.Passing.{rows_not_reached, rows_reached}
use Rattle.outcomes.proofs.rows_stage.Goals as goal
use Rattle.outcomes.proofs.rows_stage.Goals.{In-Ok}

passed : (c : In-Ok) → c.bounds_stage-earlier.result ≡ Ok c.in-Ok.n
passed c = cc

stands : (c : In-Ok) → answered (counts_in (case_of c.args.b.now)) (first_of (grounds_to13 c.args.b.now c.args.q.now)) ≡ Ok c.in-Ok.n
stands c = sym c.bounds_stage-earlier.ensures.0 ∙ passed c

pub returns-in_default : goal.returns-in_default
returns-in_default c =
    let e : c.bounds_stage-earlier.result ≡ Err c.in_default.field-0 = cc in
    (e ∙ sym (rows_not_reached c.args.b.now c.args.q.now _ (sym c.bounds_stage-earlier.ensures.0 ∙ e)), undecided e)

pub kept_case-requires : goal.kept_case-requires
kept_case-requires c =
    let s = (goal.at.kept_case-requires c).In-Ok in
    (passed_standing c.args.b.now c.args.q.now _ (stands s), c.bounds_stage-earlier.ensures.1.known _ (passed s))

pub returns-in-Some : goal.returns-in-Some
returns-in-Some c =
    let e : c.first_broken.result ≡ Some c.in-Some.row = cc in
    let found = c.first_broken.ensures ∙ of_files (λ (b : List ℕ) (q : List ℕ). row_ground (case_of b) (certificate_of q)) c.kept_case.ensures.case c.kept_case.ensures.certificate in
    (sym (rows_reached c.args.b.now c.args.q.now _ (stands (goal.at.returns-in-Some c).In-Ok) ∙ rw (← found, e) refl), undecided refl)

pub returns : goal.returns
returns c =
    let e : c.first_broken.result ≡ None = cc in
    let found = c.first_broken.ensures ∙ of_files (λ (b : List ℕ) (q : List ℕ). row_ground (case_of b) (certificate_of q)) c.kept_case.ensures.case c.kept_case.ensures.certificate in
    let s = (goal.at.returns c).In-Ok in
    (sym (rows_reached c.args.b.now c.args.q.now _ (stands s) ∙ rw (← found, e) refl), rw (passed s) at c.bounds_stage-earlier.ensures.1)
