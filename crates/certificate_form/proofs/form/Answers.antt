use Rattle.std.proofs.Common.{sym, ◌∙◌, arith}
use Rattle.certificate_form.proofs.Forms.{length_from, by_length, by_version, by_counts, by_size, by_none}
use Rattle.certificate_form.proofs.form.Goals as goal

pub returns-then-not-length_right : goal.returns-then-not-length_right
returns-then-not-length_right c = λ k e. by_length _ k e (sym c.length_right.ensures ∙ c.if-not-length_right.true)

pub version_right-requires : goal.version_right-requires
version_right-requires c = omega (arith, length_from _ (sym c.length_right.ensures ∙ c.if-not-length_right.false))

pub returns-then-not-version_right : goal.returns-then-not-version_right
returns-then-not-version_right c = λ k e. by_version _ k e (sym c.length_right.ensures ∙ c.if-not-length_right.false) (sym c.version_right.ensures ∙ c.if-not-version_right.true)

pub same_counts-requires : goal.same_counts-requires
same_counts-requires c = omega (arith, length_from _ (sym c.length_right.ensures ∙ c.if-not-length_right.false))

pub returns-then-not-same_counts : goal.returns-then-not-same_counts
returns-then-not-same_counts c = λ k e. by_counts _ k e (sym c.length_right.ensures ∙ c.if-not-length_right.false) (sym c.version_right.ensures ∙ c.if-not-version_right.false) (sym c.same_counts.ensures ∙ c.if-not-same_counts.true)

pub returns-then-not-size_right : goal.returns-then-not-size_right
returns-then-not-size_right c = λ k e. by_size _ k e (sym c.length_right.ensures ∙ c.if-not-length_right.false) (sym c.version_right.ensures ∙ c.if-not-version_right.false) (sym c.same_counts.ensures ∙ c.if-not-same_counts.false) (sym c.size_right.ensures ∙ c.if-not-size_right.true)

pub returns : goal.returns
returns c = λ k e. by_none _ k e (sym c.length_right.ensures ∙ c.if-not-length_right.false) (sym c.version_right.ensures ∙ c.if-not-version_right.false) (sym c.same_counts.ensures ∙ c.if-not-same_counts.false) (sym c.size_right.ensures ∙ c.if-not-size_right.false)
