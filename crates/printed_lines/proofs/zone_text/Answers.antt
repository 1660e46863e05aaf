use Rattle.std.proofs.Common.{arith, rules}
use Rattle.std.proofs.lemmas.Int.{to_z-of_z}
use Rattle.printed_lines.proofs.Lines.{zone_text_is}
use Rattle.printed_lines.proofs.Numbers.{Kept, next_number}
use Rattle.printed_lines.proofs.zone_text.Goals as goal

pub returns : goal.returns
returns c =
    let p = c.args.p in
    let n = next_number c.args.zone (omega arith) in
    let g : Kept p.regulating.0 = search (rules, to_z-of_z) in
    let s : Kept p.spinning.0 = search (rules, to_z-of_z) in
    let m : Kept p.supplemental.0 = search (rules, to_z-of_z) in
    let h : Kept p.short_term.0 = search (rules, to_z-of_z) in
    rw (← (zone_text_is c.args.zone p n g s m h)) c.line.ensures
