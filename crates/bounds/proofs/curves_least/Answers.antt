use Rattle.market.specs.declared.PerCurve.{PerCurve}
use Rattle.market.specs.declared.Millicents.{Millicents}
use mathlib.Core.Path.{ap}
use native.Mathlib.Omega.{arith}
use Rattle.market.specs.declared.Curve.TheVariants.{Operating as operating, RegulatingPlusSpinning as regulating_plus_spinning, Regulating as regulating, ShortTerm as short_term}
use Rattle.market.specs.Records.{reserve_prices_of}
use Rattle.prices.proofs.Known.{market_small}
use Rattle.bounds.proofs.PricedTerms.{curve_from_lem, curves_are}
use Rattle.prices.specs.PricedCase.{case_bytes, the_prices}
use Rattle.bounds.proofs.curves_least.Goals as goal

pub curve_least-operating-requires : goal.curve_least-operating-requires
curve_least-operating-requires c = rw c.market_prices-prices.ensures (market_small c.args.priced.now.prices_stand).operating

pub curve_least-both-requires : goal.curve_least-both-requires
curve_least-both-requires c = rw c.market_prices-prices.ensures (market_small c.args.priced.now.prices_stand).regulating_plus_spinning

pub curve_least-regulating-requires : goal.curve_least-regulating-requires
curve_least-regulating-requires c = rw c.market_prices-prices.ensures (market_small c.args.priced.now.prices_stand).regulating

pub curve_least-short_term-requires : goal.curve_least-short_term-requires
curve_least-short_term-requires c = rw c.market_prices-prices.ensures (market_small c.args.priced.now.prices_stand).short_term

pub returns : goal.returns
unfolding reserve_prices_of
returns c =
    let k = case_bytes c.args.priced.now in
    let y = the_prices c.args.priced.now in
    let prices = c.market_prices-prices.ensures in
    let part0 = curve_from_lem k y operating (ap (λ (x : (PerCurve Millicents)). x.operating) prices) c.curve.ensures c.curve_least-operating.ensures in
    let part1 = curve_from_lem k y regulating_plus_spinning (ap (λ (x : (PerCurve Millicents)). x.regulating_plus_spinning) prices) c.curve-2.ensures c.curve_least-both.ensures in
    let part2 = curve_from_lem k y regulating (ap (λ (x : (PerCurve Millicents)). x.regulating) prices) c.curve-3.ensures c.curve_least-regulating.ensures in
    let part3 = curve_from_lem k y short_term (ap (λ (x : (PerCurve Millicents)). x.short_term) prices) c.curve-4.ensures c.curve_least-short_term.ensures in
    record { is = cc (curves_are k y, part0.is, part1.is, part2.is, part3.is); size = omega arith }
