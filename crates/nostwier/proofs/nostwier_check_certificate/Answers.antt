use Rattle.nostwier.proofs.Reporting.{reported, same_result}
use Rattle.nostwier.proofs.nostwier_check_certificate.Goals as goal

pub returns : goal.returns
returns c = reported _ _ _ _ c.check_certificate.ensures (same_result c.into.ensures (cc) (cc) (cc) (cc) (cc))
