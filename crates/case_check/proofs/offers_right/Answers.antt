use Rattle.std.proofs.Common.{refl, rules}
use Rattle.arith.proofs.Ranges.{all_upto}
use Rattle.case_ranges.proofs.Places.{resource_is}
use Rattle.case_check.proofs.offers_right.Goals as goal

pub returns : goal.returns
returns c = all_upto _ _ refl c.all.ensures.ran (λ k b q h. search (rules, resource_is c.args.case.now.bytes.now c.args.case.now.whole.zones))
