use Rattle.std.proofs.Common.{arith, length}
use Rattle.market.specs.Program.{spaced}
use Rattle.decimals.proofs.Front.{adds_on, label_most, room_left}
use Rattle.decimals.specs.Written.{label_text, most_label, most_figures}
use Rattle.decimals.proofs.Text.line.Goals as goal

pub figures-requires : goal.figures-requires
figures-requires c =
    let l = c.args.label in
    room_left (label_text l) c.args.self.now c.label.new.self (most_label l) (most_figures (length c.args.vs.now)) c.requires (label_most l) c.label.ensures

pub returns : goal.returns
returns c =
    let l = c.args.label in
    let m = label_most l in
    adds_on (label_text l) (spaced c.args.vs.now) c.args.self.now c.label.new.self c.figures.new.self (omega arith) c.label.ensures c.figures.ensures
