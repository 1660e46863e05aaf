use mathlib.Core.Path.{◌∙◌, sym}
use native.Mathlib.Omega.{arith}
use Rattle.case_check.proofs.Passing.{counts_from}
use Rattle.certificate_form.proofs.Forms.{length_from}
use Rattle.read_numbers.proofs.certificate_stage.Goals as goal

pub version_right-requires : goal.version_right-requires
version_right-requires c = omega (arith, length_from _ (sym c.length_right.ensures ∙ c.if-not-length_right.false))

pub counts_at-n-requires : goal.counts_at-n-requires
counts_at-n-requires c = omega (arith, length_from _ (sym c.length_right.ensures ∙ c.if-not-length_right.false))

pub size_right-requires : goal.size_right-requires
size_right-requires c = counts_from _ _ _ (sym c.counts_right.ensures ∙ c.if-not-counts_right.false)
