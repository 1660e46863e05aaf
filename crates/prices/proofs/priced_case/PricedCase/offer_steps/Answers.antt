use Rattle.case_records.proofs.Ranged.{valid_steps}
use Rattle.prices.proofs.Known.{resource_below}
use Rattle.prices.proofs.priced_case.PricedCase.offer_steps.Goals as goal

pub invariant_of-result : goal.invariant_of-result
invariant_of-result c =
    let s = c.args.self.now.prices_stand in
    record { ranged = rw c.offer_steps.ensures (valid_steps _ s.valid c.args.i (resource_below s c.requires)) }
