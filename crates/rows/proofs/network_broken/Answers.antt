use Rattle.std.specs.Prelude.{None}
use Rattle.std.proofs.Common.{◌≡◌}
use Rattle.market.specs.declared.Refusal.TheVariants.{RowBroken}
use Rattle.case_records.proofs.Places.{flowgates_is}
use Rattle.rows.proofs.Known.{flowgate_broken, limit_broken}
use Rattle.prices.specs.PricedCase.{the_case}
use Rattle.rows.proofs.network_broken.Goals as goal

pub returns-in-Some : goal.returns-in-Some
returns-in-Some c = flowgate_broken _ RowBroken (the_case c.args.kept.now.bounded.priced) _ c.flowgates_over.result c.flowgates_over.ensures c.in-Some.row cc

pub returns : goal.returns
returns c =
    let none : c.flowgates_over.result ≡ None = cc in
    let rest = rw (flowgates_is c.args.kept.now.bounded.standing.prices.case_bytes) at c.resources_outside.ensures in
    limit_broken _ RowBroken (the_case c.args.kept.now.bounded.priced) _ c.flowgates_over.result c.flowgates_over.ensures c.resources_outside.result none rest
