use mathlib.Core.List.{List, map, ◌++◌}
use Rattle.arith.specs.Sums.{across}
use Rattle.market.specs.Case.{curves}
use Rattle.charges.specs.Terms.{charge_in}
use Rattle.charges.proofs.Families.{sixteen_steps}
use mathlib.Core.Path.{refl, sym, ap, ◌∙◌}
use Prim.Native.Nat.{ℕ, ◌≤◌}
use native.Mathlib.Omega.{arith}
use lib.IntN.{ℤ}
use lib.ListN.{length, drop}
use Rattle.market.specs.Cost.{curve_priced, curve_priced_count}
use Rattle.market.specs.declared.Curve.TheVariants.{Operating as operating, RegulatingPlusSpinning as regulating_plus_spinning, Regulating as regulating, ShortTerm as short_term}
use Rattle.market.specs.Records.{reserve_prices_of, cleared_of}
use Rattle.arith.proofs.Buffers.{rest_length, write_on}
use Rattle.charges.proofs.Known.{curve_fits, curves_listed, pair_count}
use Rattle.charges.proofs.write_curves.Goals as goal
use Rattle.charges.proofs.write_curves.Goals.{After-write_pair}
use Rattle.prices.specs.PricedCase.{the_case, case_bytes, certificate_bytes}

room : (c : After-write_pair) → curve_priced_count (the_case c.args.bounded.now.priced).version ≤ length c.write_pair.new.out
room c = omega (arith, c.write_pair.auto.out, c.requires)

pub write_pair-requires : goal.write_pair-requires
unfolding reserve_prices_of cleared_of
write_pair-requires c =
    let s = c.args.bounded.now.standing in
    (rw (c.market_prices-prices.ensures, c.cleared-cleared.ensures) (curve_fits s operating tt, curve_fits s regulating_plus_spinning tt), omega arith)

pub write_pair-requires-2 : goal.write_pair-requires-2
unfolding reserve_prices_of cleared_of
write_pair-requires-2 c =
    let s = c.args.bounded.now.standing in
    (rw (c.market_prices-prices.ensures, c.cleared-cleared.ensures) (curve_fits s regulating tt, curve_fits s short_term tt), rw (rest_length 8 c.write_pair.new.out) (omega (arith, room (goal.at.write_pair-requires-2 c).After-write_pair)))

pub returns : goal.returns
returns c =
    let b = (case_bytes c.args.bounded.now.priced) in
    let q = (certificate_bytes c.args.bounded.now.priced) in
    let o = c.args.out.now in
    let w = c.write_pair in
    let x = c.write_pair-2 in
    write_on _ _ o w.new.out x.new.out 8 8 8 (pair_count _ _) refl (omega arith) w.ensures x.ensures
    ∙ ap (λ (l : List ℤ). l ++ drop 16 o) (curves_listed b q c.market_prices-prices.ensures c.cleared-cleared.ensures c.curve.ensures c.curve-2.ensures c.curve-3.ensures c.curve-4.ensures)
    ∙ ap (λ (n : ℕ). map (charge_in b q) (across curve_priced (curves (the_case c.args.bounded.now.priced).version)) ++ drop n o) (sym (sixteen_steps (the_case c.args.bounded.now.priced).version))
