use Rattle.std.proofs.Common.{rules, arith, [], ◌∷◌, ◌≡◌, to_z, of_z, w64}
use Rattle.std.proofs.lemmas.Int.{to_z-of_z}
use Rattle.market.specs.Program.{decimal}
use Rattle.decimals.proofs.Front.{adds_on, room_left}
use Rattle.decimals.specs.Written.{most_decimal}
use Rattle.decimals.proofs.Text.figure.Goals as goal

pub number-requires : goal.number-requires
number-requires c = room_left (32 ∷ []) c.args.self.now c.byte.new.self 1 most_decimal c.requires (omega arith) c.byte.ensures

pub returns : goal.returns
returns c =
    let v = c.args.v in
    let e : to_z w64 (of_z w64 v) ≡ v = search (rules, to_z-of_z) in
    adds_on (32 ∷ []) (decimal v) c.args.self.now c.byte.new.self c.number.new.self (omega arith) c.byte.ensures (rw e at c.number.ensures)
