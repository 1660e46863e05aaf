use Rattle.std.proofs.Common.{◌≡◌, sym, refl, ◌∙◌, arith, rules, below_none}
use Rattle.market.specs.CaseFile.{resource_at}
use Rattle.case_soundness.proofs.Parts.{widths_at, prices_at, offer_sound}
use Rattle.case_soundness.proofs.Ranks.{rank_at, rank_next, rising_next}
use Rattle.case_soundness.proofs.Steps.{width_none, width_more}
use Rattle.case_soundness.proofs.offer_sound.Goals as goal

pub loop-j-init : goal.loop-j-init
loop-j-init c = (refl, sym (width_none _), omega arith, below_none _)

pub loop-j-preserved : goal.loop-j-preserved
unfolding resource_at
loop-j-preserved c =
    let v = c.loop-j in
    let b = c.args.resource.now.bytes.now in
    let w = widths_at b c.args.resource.now.at in
    let p = prices_at b c.args.resource.now.at in
    let width : c.step-step.result.width ≡ w v.j = c.step-step.ensures.width in
    let price : c.step-step.result.price ≡ p v.j = c.step-step.ensures.price_number in
    let here : c.rank-here.result ≡ rank_at w p v.j = c.rank-here.ensures ∙ rw (width, price) in
    (here ∙ sym (rank_next w p v.j), rw (width_more w v.j, v.invariant.1, c.from-sum.ensures, width), search rules, rising_next w p v.j v.invariant.3 (rw (← price) (omega arith)) v.invariant.0 here (omega arith))

pub returns : goal.returns
returns c = let v = c.loop-j in offer_sound c.args.resource.now.bytes.now c.args.resource.now.at (omega arith) v.invariant.0 v.invariant.1 v.invariant.3
