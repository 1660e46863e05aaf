use native.Mathlib.Omega.{arith}
use Rattle.market.specs.declared.Curve.TheVariants.{Operating as operating, RegulatingPlusSpinning as regulating_plus_spinning, Regulating as regulating, ShortTerm as short_term}
use Rattle.market.specs.Records.{cleared_of}
use Rattle.costs.proofs.Totals.{curves_added_up, curve_value_is}
use Rattle.costs.proofs.Known.{cleared_known, curve_size, two_curves_size, three_curves_size}
use Rattle.prices.specs.PricedCase.{the_case, the_amounts, case_bytes}
use Rattle.costs.proofs.curves_value.Goals as goal

pub curve_value-operating-requires : goal.curve_value-operating-requires
unfolding cleared_of
curve_value-operating-requires c = rw c.cleared-cleared.ensures (cleared_known c.args.bounded.now.standing operating)

pub curve_value-spinning-requires : goal.curve_value-spinning-requires
unfolding cleared_of
curve_value-spinning-requires c = rw c.cleared-cleared.ensures (cleared_known c.args.bounded.now.standing regulating_plus_spinning)

pub curve_value-regulating-requires : goal.curve_value-regulating-requires
unfolding cleared_of
curve_value-regulating-requires c = rw c.cleared-cleared.ensures (cleared_known c.args.bounded.now.standing regulating)

pub curve_value-short_term-requires : goal.curve_value-short_term-requires
unfolding cleared_of
curve_value-short_term-requires c = rw c.cleared-cleared.ensures (cleared_known c.args.bounded.now.standing short_term)

pub sum-requires : goal.sum-requires
unfolding cleared_of
sum-requires c =
    let is = curve_value_is (the_case c.args.bounded.now.priced) (the_amounts c.args.bounded.now.priced) in
    rw (c.curve_value-regulating.ensures, c.curve_value-short_term.ensures, c.curve-3.ensures, c.curve-4.ensures, c.cleared-cleared.ensures, is regulating, is short_term)
    (omega (arith, curve_size c.args.bounded.now.standing regulating, curve_size c.args.bounded.now.standing short_term))

pub sum-requires-2 : goal.sum-requires-2
unfolding cleared_of
sum-requires-2 c =
    let is = curve_value_is (the_case c.args.bounded.now.priced) (the_amounts c.args.bounded.now.priced) in
    rw (c.sum.ensures, c.curve_value-spinning.ensures, c.curve_value-regulating.ensures, c.curve_value-short_term.ensures, c.curve-2.ensures, c.curve-3.ensures, c.curve-4.ensures, c.cleared-cleared.ensures, is regulating_plus_spinning, is regulating, is short_term)
    (omega (arith, curve_size c.args.bounded.now.standing regulating_plus_spinning, two_curves_size c.args.bounded.now.standing))

pub sum-requires-3 : goal.sum-requires-3
unfolding cleared_of
sum-requires-3 c =
    let is = curve_value_is (the_case c.args.bounded.now.priced) (the_amounts c.args.bounded.now.priced) in
    rw (c.sum-2.ensures, c.sum.ensures, c.curve_value-operating.ensures, c.curve_value-spinning.ensures, c.curve_value-regulating.ensures, c.curve_value-short_term.ensures, c.curve.ensures, c.curve-2.ensures, c.curve-3.ensures, c.curve-4.ensures, c.cleared-cleared.ensures, is operating, is regulating_plus_spinning, is regulating, is short_term)
    (omega (arith, curve_size c.args.bounded.now.standing operating, three_curves_size c.args.bounded.now.standing))

pub returns : goal.returns
unfolding cleared_of
returns c =
    let is = curve_value_is (the_case c.args.bounded.now.priced) (the_amounts c.args.bounded.now.priced) in
    rw (c.sum-3.ensures, c.sum-2.ensures, c.sum.ensures, c.curve_value-operating.ensures, c.curve_value-spinning.ensures, c.curve_value-regulating.ensures, c.curve_value-short_term.ensures, c.curve.ensures, c.curve-2.ensures, c.curve-3.ensures, c.curve-4.ensures, c.cleared-cleared.ensures, is operating, is regulating_plus_spinning, is regulating, is short_term, curves_added_up (case_bytes c.args.bounded.now.priced) (the_amounts c.args.bounded.now.priced))
