use Rattle.std.proofs.lemmas.Result.{err_from_is_err_and}
use mathlib.Core.Path.{sym, ◌∙◌}
use Rattle.std.proofs.Common.{List, ℕ}
use Rattle.market.specs.CaseFile.{case_of}
use Rattle.market.specs.Certificate.{certificate_of}
use Rattle.market.specs.Outcome.{valuation}
use Rattle.outcomes.specs.Checked.{AcceptedWith}
use Rattle.outcomes.proofs.Files.{of_files}
use Rattle.outcomes.proofs.Passing.{accepted_by, all_standing, accepted, refused}
use Rattle.outcomes.proofs.check_certificate.Goals as goal
use Rattle.outcomes.proofs.check_certificate.Goals.{In_ok-n}

pub returns-in_err-n : goal.returns-in_err-n
returns-in_err-n c =
    let p = err_from_is_err_and c.from_residual.result c.from_residual.ensures.1 in
    rw (p.1, p.2) (refused c.args.b.now c.args.q.now _ (sym c.rows_stage.ensures.0 ∙ c.in_err-n.was))

stands : (c : In_ok-n) → AcceptedWith c.args.b.now c.args.q.now c.in_ok-n.n
stands c = accepted_by c.args.b.now c.args.q.now _ (sym c.rows_stage.ensures.0 ∙ c.in_ok-n.was)

pub kept_case-requires : goal.kept_case-requires
kept_case-requires c =
    (all_standing c.args.b.now c.args.q.now _ (stands (goal.at.kept_case-requires c).In_ok-n), c.rows_stage.ensures.1.known _ c.in_ok-n.was)

pub returns : goal.returns
returns c =
    let of = λ (b : List ℕ) (q : List ℕ). valuation (case_of b) (certificate_of q) in
    accepted c.args.b.now c.args.q.now _ _ (stands (goal.at.returns c).In_ok-n) (c.valued.ensures ∙ of_files of c.kept_case.ensures.case c.kept_case.ensures.certificate)
