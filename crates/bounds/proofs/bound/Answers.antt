use mathlib.Core.Path.{◌∙◌, ap}
use Rattle.market.specs.Bound.{bound}
use Rattle.market.specs.Records.{grains}
use Rattle.bounds.proofs.PricedTerms.{bound_is}
use Rattle.bounds.proofs.bound.Goals as goal

pub returns : goal.returns
unfolding bound
returns c =
    ap grains (c.sized_sum.ensures.is ∙ rw (c.sized_sum-rest.ensures.is, c.common_terms-common.ensures.is, c.requires.is, c.curves_least-cleared.ensures.is) (bound_is c.args.bounded.now.standing.prices))
