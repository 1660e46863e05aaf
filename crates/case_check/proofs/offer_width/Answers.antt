use Rattle.std.proofs.Common.{◌≡◌, sym, ◌∙◌, arith, rules}
use Rattle.wire.specs.CaseParts.{figures_of}
use Rattle.case_soundness.proofs.Steps.{width_none, width_more}
use Rattle.case_check.proofs.offer_width.Goals as goal

pub loop-j-init : goal.loop-j-init
loop-j-init c = record { widths = sym (width_none (figures_of c.args.resource.now).step_width); room = omega arith }

pub loop-j-preserved : goal.loop-j-preserved
loop-j-preserved c =
    let l = c.loop-j in
    let widths = (figures_of c.args.resource.now).step_width in
    let w : c.from-sum.result ≡ widths l.j = c.from-sum.ensures ∙ c.step.ensures.width in
    record { widths = rw (width_more widths l.j, l.invariant.widths, w); room = search rules }
