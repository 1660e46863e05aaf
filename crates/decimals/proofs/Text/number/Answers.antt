use Rattle.std.proofs.Common.{rules, arith, [], ◌∷◌, ◌≡◌, to_z, of_z, w64}
use Rattle.std.proofs.lemmas.Int.{to_z-of_z}
use lib.IntN.{nat_abs}
use Rattle.market.specs.Program.{digits_on}
use Rattle.decimals.specs.Written.{most_digits}
use Rattle.decimals.proofs.Digits.{below_zero, not_below}
use Rattle.decimals.proofs.Front.{adds_on}
use Rattle.decimals.proofs.Text.number.Goals as goal
use Rattle.decimals.proofs.Text.number.Goals.{then-v-lt0, else-v-lt0}

pub returns : goal.returns
returns c =
    let v = c.args.v in
    let e : to_z w64 (of_z w64 v) ≡ v = search (rules, to_z-of_z) in
    let m = rw (c.unsigned_abs.ensures.value, e) at c.magnitude.ensures in
    elim c.if-v-lt0.branch [
      | then-v-lt0 w ↦ rw (below_zero v (rw e at w.if-v-lt0.true)) (adds_on (45 ∷ []) (digits_on most_digits (nat_abs v) []) c.args.self.now c.if-v-lt0.self c.magnitude.new.self (omega arith) (rw w.self-is w.byte.ensures) m)
      | else-v-lt0 w ↦ rw (not_below v (rw e at w.if-v-lt0.false), ← w.self-is) m
    ]
