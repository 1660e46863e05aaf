use Rattle.prices.proofs.Known.{amounts_small}
use Rattle.prices.proofs.bounded_case.BoundedCase.amounts.Goals as goal

pub invariant_of-result : goal.invariant_of-result
invariant_of-result c = record { small = rw c.amounts.ensures (amounts_small c.args.self.now.standing c.args.i c.requires) }
