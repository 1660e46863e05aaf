use Rattle.std.proofs.Common.{arith, ◌++◌, ◌+◌, length}
use Rattle.decimals.proofs.Front.{adds_on, room_left}
use Rattle.market.specs.Program.{cost_word, bound_word, gap_word}
use Rattle.printed_lines.proofs.Lines.{value_most}
use Rattle.printed_lines.specs.Lines.{value_line, head_lines}
use Rattle.printed_lines.specs.Room.{most_value_line}
use Rattle.printed_lines.proofs.head_lines.Goals as goal

pub value_line-requires-2 : goal.value_line-requires-2
value_line-requires-2 c =
    let v = c.args.v in
    room_left (value_line cost_word v.cost) c.args.text.now c.value_line.new.text (most_value_line 4) (most_value_line 5) (omega arith) (value_most cost_word v.cost) c.value_line.ensures

pub value_line-requires-3 : goal.value_line-requires-3
value_line-requires-3 c =
    let v = c.args.v in
    let room = room_left (value_line cost_word v.cost) c.args.text.now c.value_line.new.text (most_value_line 4) (most_value_line 5 + most_value_line 3) (omega arith) (value_most cost_word v.cost) c.value_line.ensures in
    room_left (value_line bound_word v.bound) c.value_line.new.text c.value_line-2.new.text (most_value_line 5) (most_value_line 3) room (value_most bound_word v.bound) c.value_line-2.ensures

pub returns : goal.returns
unfolding head_lines
returns c =
    let v = c.args.v in
    let x = c.args.text.now in
    let a = value_line cost_word v.cost in
    let b = value_line bound_word v.bound in
    let y = c.value_line.new.text in
    let z = c.value_line-2.new.text in
    adds_on a (b ++ value_line gap_word v.gap) x y c.value_line-3.new.text (omega (arith, value_most cost_word v.cost)) c.value_line.ensures
    (adds_on b (value_line gap_word v.gap) y z c.value_line-3.new.text (room_left a x y (most_value_line 4) (length b) (omega (arith, value_most bound_word v.bound)) (value_most cost_word v.cost) c.value_line.ensures) c.value_line-2.ensures c.value_line-3.ensures)
