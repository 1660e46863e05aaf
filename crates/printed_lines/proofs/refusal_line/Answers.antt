use Rattle.std.proofs.Common.{arith, rules, ◌∙◌}
use Rattle.std.proofs.lemmas.Int.{to_z-of_z}
use Rattle.printed_lines.proofs.Lines.{refusal_plain, refusal_placed}
use Rattle.printed_lines.proofs.Numbers.{Kept}
use Rattle.printed_lines.proofs.refusal_line.Goals as goal

pub returns-then-place-eq0 : goal.returns-then-place-eq0
returns-then-place-eq0 c =
    let n = c.number in
    let p = c.place-place in
    let t : Kept c.from-number.result = search (rules, to_z-of_z) in
    rw (← (refusal_plain c.args.why n.result p.result n.ensures p.ensures (t ∙ c.from-number.ensures) (omega arith))) c.line.ensures

pub returns : goal.returns
returns c =
    let n = c.number in
    let p = c.place-place in
    let t : Kept c.from-number.result = search (rules, to_z-of_z) in
    let u : Kept c.from.result = search (rules, to_z-of_z) in
    rw (← (refusal_placed c.args.why n.result p.result n.ensures p.ensures (t ∙ c.from-number.ensures) (u ∙ c.from.ensures) (omega arith))) c.line-2.ensures
