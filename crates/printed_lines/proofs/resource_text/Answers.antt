use Rattle.std.proofs.Common.{arith, rules, ◌∙◌}
use Rattle.std.proofs.lemmas.Int.{to_z-of_z}
use Rattle.printed_lines.proofs.Lines.{resource_text_is}
use Rattle.printed_lines.proofs.Numbers.{Kept, next_number}
use Rattle.printed_lines.proofs.resource_text.Goals as goal

pub returns : goal.returns
returns c =
    let a = c.args.a in
    let n = next_number c.args.i (omega arith) in
    let t : Kept c.printed-on_line.result = search (rules, to_z-of_z) in
    let e : Kept a.energy.0 = search (rules, to_z-of_z) in
    let g : Kept a.regulation.0 = search (rules, to_z-of_z) in
    let k : Kept a.contingency.0 = search (rules, to_z-of_z) in
    let s : Kept a.on_line_short_term.0 = search (rules, to_z-of_z) in
    let o : Kept a.off_line_short_term.0 = search (rules, to_z-of_z) in
    let l : Kept c.args.price.0 = search (rules, to_z-of_z) in
    rw (← (resource_text_is c.args.i c.args.availability a c.args.price n (t ∙ c.printed-on_line.ensures) e g k s o l)) c.line.ensures
