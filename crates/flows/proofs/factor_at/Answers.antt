use mathlib.Core.Path.{◌≡◌}
use native.Mathlib.Omega.{arith}
use mir.Syntax.{w32, w64}
use mir.Val.{SFits, to_z, of_z}
use borrow.Author.Rules.{rules}
use mir.Facts.{to_z-of_z}
use Rattle.arith.proofs.Magnitudes.{fits-abs}
use Rattle.prices.proofs.Known.{factor_size_lem}
use Rattle.flows.proofs.factor_at.Goals as goal
use Rattle.flows.proofs.factor_at.Goals.{After-shift_factor-factor}
use Rattle.prices.specs.PricedCase.{the_case}

factor_is : (c : After-shift_factor-factor) →
    to_z w64 (of_z w64 c.shift_factor-factor.result.0) ≡ (the_case c.args.bounded.now.priced).shift_factor c.args.g c.args.i
factor_is c = let fit : SFits w64 c.shift_factor-factor.result.0 = search rules in rw (to_z-of_z fit, c.shift_factor-factor.ensures)

pub overflow_cast-result : goal.overflow_cast-result
overflow_cast-result c =
    rw (factor_is (goal.at.overflow_cast-result c).After-shift_factor-factor)
    (fits-abs {w = w32} (omega (arith, factor_size_lem c.args.bounded.now.standing.prices c.args.g c.args.i c.requires.0 c.requires.1)))

pub returns : goal.returns
returns c =
    let fits : SFits w32 ((the_case c.args.bounded.now.priced).shift_factor c.args.g c.args.i) = fits-abs {w = w32} (omega (arith, factor_size_lem c.args.bounded.now.standing.prices c.args.g c.args.i c.requires.0 c.requires.1)) in
    rw (factor_is (goal.at.returns c).After-shift_factor-factor, to_z-of_z fits)
