use Rattle.market.specs.CaseFile.{case_as}
use Rattle.case_check.proofs.counts_at.Goals as goal

pub returns : goal.returns
unfolding case_as
returns c = λ i. record { version = c.version_at.ensures i; resources = c.count_at.ensures i; zones = c.count_at-2.ensures i; flowgates = c.count_at-3.ensures i }
