use Rattle.std.proofs.Common.{refl, rules}
use Rattle.arith.proofs.Ranges.{all_true}
use Rattle.case_ranges.proofs.Places.{resource_is}
use Rattle.case_soundness.proofs.resources_sound.Goals as goal

pub returns : goal.returns
returns c = all_true _ _ refl c.all.ensures.ran (λ k q h. search (rules, resource_is c.args.b.now c.requires.0 k))
