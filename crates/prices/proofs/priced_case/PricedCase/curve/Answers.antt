use Rattle.case_records.proofs.Ranged.{valid_curve}
use Rattle.prices.proofs.priced_case.PricedCase.curve.Goals as goal

pub invariant_of-result : goal.invariant_of-result
invariant_of-result c = record { ranged = rw c.curve.ensures (valid_curve _ c.args.self.now.prices_stand.valid c.args.curve) }
