use Rattle.std.proofs.Common.{refl, ◌∙◌, rules, sym}
use Rattle.arith.proofs.Ranges.{all_upto}
use Rattle.case_ranges.proofs.Places.{resource_is}
use Rattle.case_check.proofs.Places.{limits_in_turn}
use Rattle.case_check.proofs.limits_ordered.Goals as goal

pub returns : goal.returns
returns c =
    all_upto _ _ refl c.all.ensures.ran (λ k b q h. search (rules, resource_is c.args.case.now.bytes.now c.args.case.now.whole.zones))
    ∙ sym (limits_in_turn c.args.case.now.whole)
