use Rattle.std.proofs.Common.{arith}
use Rattle.arith.proofs.Magnitudes.{abs-add}
use Rattle.prices.specs.ZonePrices.{added_prices}
use Rattle.prices.proofs.added.Goals as goal

pub sum-spinning-requires : goal.sum-spinning-requires
sum-spinning-requires c = grind (arith, abs-add)

pub sum-regulating-requires : goal.sum-regulating-requires
sum-regulating-requires c = grind (arith, abs-add)

pub returns : goal.returns
unfolding added_prices
returns c =
    rw (
      c.sum-regulating.ensures,
      c.sum-spinning.ensures,
      c.sum-supplemental.ensures,
      c.sum-both.ensures,
      c.sum-own.ensures,
      c.sum-short_term.ensures,
    )
