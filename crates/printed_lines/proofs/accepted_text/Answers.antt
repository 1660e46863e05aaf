use Rattle.std.proofs.Common.{arith}
use Rattle.decimals.proofs.Front.{adds_on, room_left}
use Rattle.prices.specs.PricedCase.{the_case}
use Rattle.certificate_records.specs.Reader.{certificate_in}
use Rattle.printed_lines.proofs.Lines.{head_most, accepted_lines}
use Rattle.printed_lines.specs.Lines.{head_lines, schedule_lines}
use Rattle.printed_lines.specs.Room.{most_head, most_schedule}
use Rattle.printed_lines.proofs.accepted_text.Goals as goal

pub schedule_lines-requires : goal.schedule_lines-requires
schedule_lines-requires c = let v = c.args.v in room_left (head_lines v) c.args.text.now c.head_lines.new.text most_head most_schedule c.requires (head_most v) c.head_lines.ensures

pub returns : goal.returns
returns c =
    let p = c.args.priced.now in
    let cs = the_case p in
    let k = certificate_in p.certificate in
    let v = c.args.v in
    rw (← (accepted_lines cs k v)) (adds_on (head_lines v) (schedule_lines cs k) c.args.text.now c.head_lines.new.text c.schedule_lines.new.text (omega (arith, head_most v)) c.head_lines.ensures c.schedule_lines.ensures)
