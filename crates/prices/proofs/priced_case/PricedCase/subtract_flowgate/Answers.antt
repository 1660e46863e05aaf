use Rattle.std.proofs.Common.{◌≡◌, arith, rules, refl, get_or, pos, to_z, of_z, w64}
use Rattle.std.proofs.lemmas.Int.{to_z-of_z}
use Rattle.arith.specs.Sums.{upto}
use Rattle.arith.proofs.Tables.{front_store, front_next}
use Rattle.prices.specs.Figures.{less_flowgate}
use Rattle.prices.specs.PricedCase.{the_case}
use Rattle.prices.proofs.priced_case.PricedCase.subtract_flowgate.Goals as goal

pub loop-i-init : goal.loop-i-init
unfolding upto
loop-i-init c = refl

pub loop-i-preserved : goal.loop-i-preserved
loop-i-preserved c =
    let l = c.loop-i in
    let o = c.args.out.now in
    let less = less_flowgate (the_case c.args.self.now) c.args.g c.args.price.0 o in
    let left = c.difference-left in
    let read : to_z w64 (of_z w64 (get_or l.out l.i (pos 0))) ≡ get_or l.out l.i (pos 0) = search (rules, to_z-of_z) in
    let same : get_or l.out l.i (pos 0) ≡ get_or o l.i (pos 0) = rw l.invariant (front_next (pos 0) less l.i o) in
    let number : left.result.0 ≡ less l.i = rw (left.ensures, c.factored-part.ensures, c.shift_factor-factor.ensures, read, same) in
    let stored : to_z w64 (of_z w64 left.result.0) ≡ left.result.0 = search (rules, to_z-of_z) in
    rw (stored, number) (front_store less l.i o l.out (omega arith) l.invariant)
