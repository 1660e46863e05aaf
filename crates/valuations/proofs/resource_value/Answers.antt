use mathlib.Core.Path.{◌≡◌, ◌∙◌}
use native.Mathlib.Omega.{arith}
use Rattle.capabilities.proofs.Sizes.{limits_small}
use Rattle.limits.specs.Together.{limits_of}
use Rattle.prices.proofs.Known.{case_ranges, prices_in_range, resource_below}
use Rattle.net_prices.proofs.Known.{limit_prices_small}
use Rattle.bounds.specs.Terms.{limit_terms}
use Rattle.bounds.proofs.RowTerms.{limit_value_is}
use Rattle.valuations.proofs.resource_value.Goals as goal
use Rattle.valuations.proofs.resource_value.Goals.{After-limit_value-rows, After-limits-held}
use Rattle.prices.specs.PricedCase.{the_case, the_prices, case_bytes, certificate_bytes}

held : (c : After-limits-held) → c.limits-held.result ≡ limits_of ((the_case c.args.kept.now.bounded.priced).resource c.args.i)
held c = c.limits-held.ensures

pub limit_value-rows-requires : goal.limit_value-rows-requires
limit_value-rows-requires c =
    let i = c.args.i in
    let p = c.args.kept.now.bounded.standing.prices in
    let n = resource_below p c.requires.resource in
    rw (c.limit_prices-prices.ensures, held (goal.at.limit_value-rows-requires c).After-limits-held) (limit_prices_small _ _ (case_ranges p) (prices_in_range p) i n, limits_small _ (case_ranges p) i n)

rows : (c : After-limit_value-rows) → c.limit_value-rows.result.0 ≡ limit_terms (case_bytes c.args.kept.now.bounded.priced) (certificate_bytes c.args.kept.now.bounded.priced) c.args.i
rows c =
    c.limit_value-rows.ensures.is ∙ rw (c.limit_prices-prices.ensures, c.limits-held.ensures) (limit_value_is (the_case c.args.kept.now.bounded.priced) (the_prices c.args.kept.now.bounded.priced) c.args.i)

pub returns : goal.returns
returns c =
    record {
      worth_is = c.priced_value-priced.ensures.worth_is;
      least_is = record { is = c.sized_sum.ensures.is ∙ rw (rows (goal.at.returns c).After-limit_value-rows, c.priced_value-priced.ensures.least_is.is); size = omega arith };
    }
