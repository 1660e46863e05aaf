use Rattle.std.proofs.Common.{ap, sym, ◌∙◌, subst, arith, eqb, length}
use Rattle.market.specs.declared.Counts.{Counts}
use Rattle.market.specs.CaseFile.{case_size}
use Rattle.market.specs.CaseCheck.{counts_right, case_size_right}
use Rattle.case_check.specs.Stages.{CaseBytesOf}
use Rattle.case_check.proofs.Passing.{length_from, counts_from, shape_bytes}
use Rattle.case_check.proofs.shape_stage.Goals as goal

pub version_right-requires : goal.version_right-requires
version_right-requires c = omega (arith, length_from _ (sym c.length_right.ensures ∙ c.if-not-length_right.false))

pub counts_at-n-requires : goal.counts_at-n-requires
counts_at-n-requires c = omega (arith, length_from _ (sym c.length_right.ensures ∙ c.if-not-length_right.false))

pub size_right-requires : goal.size_right-requires
size_right-requires c = counts_from _ _ _ (sym c.counts_right.ensures ∙ c.if-not-counts_right.false)

pub returns-clause-shaped : goal.returns-clause-shaped
unfolding case_size_right
returns-clause-shaped c =
    let b = c.args.b.now in
    let long = sym c.length_right.ensures ∙ c.if-not-length_right.false in
    let counts = ap (λ (n : Counts). counts_right n.resources n.zones n.flowgates) (sym c.counts_at-n.ensures) ∙ sym c.counts_right.ensures ∙ c.if-not-counts_right.false in
    let size = ap (λ (n : Counts). eqb (length b) (case_size n.version n.resources n.zones n.flowgates)) (sym c.counts_at-n.ensures) ∙ sym c.size_right.ensures ∙ c.if-not-size_right.false in
    subst (CaseBytesOf b) (sym c.counts_at-n.ensures) (shape_bytes b long counts size)
