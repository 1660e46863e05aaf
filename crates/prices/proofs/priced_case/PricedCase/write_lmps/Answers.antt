use Rattle.std.proofs.Common.{◌≡◌, ◌∙◌, ◌++◌, sym, ap, arith, rules, List, ℤ, drop, take, length, to_z, of_z, w64}
use Rattle.std.proofs.Math.Seq.{length-take-le}
use Rattle.std.proofs.lemmas.Int.{to_z-of_z}
use Rattle.arith.proofs.Machine.{zero_bits}
use Rattle.market.specs.Rows.{flowgate_row}
use Rattle.prices.proofs.Passes.{none_passed, one_taken, none_taken, all_passed, pass_room}
use Rattle.prices.proofs.priced_case.PricedCase.write_lmps.Goals as goal
use Rattle.prices.specs.PricedCase.{the_case, the_prices}
use Rattle.prices.proofs.priced_case.PricedCase.write_lmps.Goals.{then-price-ne0, else-price-ne0}

pub loop-g-init : goal.loop-g-init
loop-g-init c =
    let r = c.args.self.now.case.resources in
    let b = c.balance_price-balance in
    let price : to_z w64 (of_z w64 b.result.0) ≡ b.result.0 = search (rules, to_z-of_z) in
    let long : length (take r c.args.out.now) ≡ r = length-take-le r c.args.out.now c.requires in
    rw (c.fill.ensures.after (λ y e. e), long, price, b.ensures, none_passed (the_case c.args.self.now) (the_prices c.args.self.now) r)

pub subtract_flowgate-requires : goal.subtract_flowgate-requires
subtract_flowgate-requires c =
    let l = c.loop-g in
    rw c.flowgate_price-price.ensures (pass_room c.args.self.now.prices_stand l.g l.out _ (omega arith) l.invariant)

pub loop-g-preserved : goal.loop-g-preserved
loop-g-preserved c =
    let l = c.loop-g in
    let cs = the_case c.args.self.now in
    let y = (the_prices c.args.self.now) in
    let rest = drop c.args.self.now.case.resources c.args.out.now in
    let priced : c.flowgate_price-price.result.0 ≡ y (flowgate_row l.g) = rw c.flowgate_price-price.ensures in
    elim c.if-price-ne0.branch [
      | then-price-ne0 w ↦ w.out-is ∙ (rw priced at w.subtract_flowgate.ensures) ∙ one_taken cs y c.args.self.now.case.resources l.g l.out rest l.invariant
      | else-price-ne0 w ↦ w.out-is ∙ l.invariant ∙ ap (λ (p : List ℤ). p ++ rest) (none_taken cs y c.args.self.now.case.resources l.g (sym priced ∙ zero_bits (search rules) w.if-price-ne0.false))
    ]

pub returns : goal.returns
returns c = let e : c.loop-g.g ≡ c.args.self.now.case.flowgates = omega arith in rw (← (all_passed c.args.self.now.prices_stand), ← e) c.loop-g.invariant
