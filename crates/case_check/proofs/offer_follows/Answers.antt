use Rattle.std.proofs.Common.{refl, rules}
use Rattle.arith.proofs.Ranges.{all_upto}
use Rattle.case_check.proofs.offer_follows.Goals as goal

pub returns : goal.returns
returns c = all_upto _ _ refl c.all.ensures.ran (λ k b q h. search rules)
