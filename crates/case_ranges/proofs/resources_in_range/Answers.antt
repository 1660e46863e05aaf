use Rattle.std.proofs.Common.{refl, rules}
use Rattle.arith.proofs.Ranges.{all_upto}
use Rattle.case_ranges.proofs.Places.{resource_here}
use Rattle.case_ranges.proofs.resources_in_range.Goals as goal

pub returns : goal.returns
returns c = all_upto _ _ refl c.all.ensures.ran (λ k b q h. search (rules, resource_here c.args.case.now.bytes.now c.args.case.now.whole.zones))
