use mathlib.Core.Path.{◌≡◌, ◌∙◌}
use mathlib.Core.Bool.{cond}
use lib.IntN.{pos}
use Rattle.market.specs.UpperBounds.{contingency}
use Rattle.market.specs.Rows.{is_spinning}
use Rattle.market.specs.InWords.{kw_of, reserve_of}
use Rattle.market.specs.Records.{kw, record_of, state_of, amounts_of, curve_amounts_of}
use Rattle.reserves.specs.Given.{zoned_amounts_of}
use Rattle.reserves.proofs.Known.{spin_small, given_is}
use Rattle.reserves.proofs.reserve_given.Goals as goal
use Rattle.reserves.proofs.reserve_given.Goals.{After-spinning-spin}
use Rattle.prices.specs.PricedCase.{the_case, the_amounts}

spin-is : (c : After-spinning-spin) →
    c.spinning-spin.result ≡ kw (cond (is_spinning ((the_case c.args.kept.now.bounded.priced).resource c.args.i)) (kw_of (the_amounts c.args.kept.now.bounded.priced) c.args.i contingency) (pos 0))
unfolding amounts_of
spin-is c =
    c.spinning-spin.ensures ∙ rw (c.spinning.ensures, c.amounts-own.ensures)

pub given-amounts-requires : goal.given-amounts-requires
given-amounts-requires c =
    rw (spin-is (goal.at.given-amounts-requires c).After-spinning-spin) (spin_small c.args.kept.now.bounded.standing c.args.i c.requires)

pub returns : goal.returns
unfolding zoned_amounts_of record_of state_of
returns c =
    let resource = c.resource-resource.ensures in
    let amounts : c.given-amounts.result ≡ curve_amounts_of (λ k. reserve_of (the_case c.args.kept.now.bounded.priced) (the_amounts c.args.kept.now.bounded.priced) k c.args.i) =
    c.given-amounts.ensures ∙ rw (spin-is (goal.at.returns c).After-spinning-spin, c.amounts-own.ensures) (given_is (the_case c.args.kept.now.bounded.priced) (the_amounts c.args.kept.now.bounded.priced) c.args.i) in
    λ j. record { zone = (resource j).state.zone; amounts = amounts j }
