use Rattle.std.proofs.Common.{◌≡◌, map, ◌+◌, ◌*◌}
use Rattle.market.specs.declared.Refusal.TheVariants.{RowBroken}
use Rattle.market.specs.Rows.{limit_row, limits, resource_row_count}
use Rattle.market.specs.Outcome.{row_met}
use Rattle.prices.proofs.Known.{resource_below}
use Rattle.limits.specs.Together.{limits_of}
use Rattle.units.proofs.Search.{first_false_lem}
use Rattle.rows.specs.Tests.{first_limit_row}
use Rattle.rows.proofs.Tests.{limit_tests_lem}
use Rattle.rows.proofs.resource_outside.Goals as goal
use Rattle.rows.proofs.resource_outside.Goals.{After-limits-held}
use Rattle.certificate_records.specs.Reader.{certificate_in}
use Rattle.prices.specs.PricedCase.{the_case}

held_is : (c : After-limits-held) →
    c.limits-held.result ≡ limits_of ((the_case c.args.kept.now.bounded.priced).resource c.args.i)
held_is c = c.limits-held.ensures

pub returns : goal.returns
returns c =
    rw (c.first_outside.ensures, c.first_limit_row.ensures, c.resource_rows-numbers.ensures, c.amounts-own.ensures, held_is (goal.at.returns c).After-limits-held, limit_tests_lem (the_case c.args.kept.now.bounded.priced) (certificate_in c.args.kept.now.bounded.priced.certificate) c.args.i (resource_below c.args.kept.now.bounded.standing.prices c.requires))
    (first_false_lem (row_met (the_case c.args.kept.now.bounded.priced) (certificate_in c.args.kept.now.bounded.priced.certificate)) RowBroken (first_limit_row (the_case c.args.kept.now.bounded.priced).version c.args.kept.now.bounded.priced.case.zones c.args.kept.now.bounded.priced.case.flowgates + c.args.i * resource_row_count (the_case c.args.kept.now.bounded.priced).version) (map (limit_row c.args.i) (limits (the_case c.args.kept.now.bounded.priced).version)))
