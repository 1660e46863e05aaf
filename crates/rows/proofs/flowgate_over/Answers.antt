use Rattle.std.proofs.Common.{◌≡◌, sym, ◌∙◌, [], ◌+◌}
use Rattle.market.specs.declared.Refusal.TheVariants.{RowBroken}
use Rattle.market.specs.Rows.{flowgate_row}
use Rattle.market.specs.Outcome.{row_met}
use Rattle.market.proofs.FirstFailing.{passes, fails, first_none}
use Rattle.case_records.proofs.Places.{resources_is}
use Rattle.prices.proofs.Known.{limit_room}
use Rattle.rows.specs.Tests.{first_flowgate_row}
use Rattle.rows.proofs.Tests.{flowgate_met}
use Rattle.rows.proofs.flowgate_over.Goals as goal
use Rattle.rows.proofs.flowgate_over.Goals.{After-at_least}
use Rattle.certificate_records.specs.Reader.{certificate_in}
use Rattle.prices.specs.PricedCase.{the_case}

pub in_watts-most-requires : goal.in_watts-most-requires
in_watts-most-requires c = rw c.flowgate_limit-limit.ensures (limit_room c.args.energies.now.bounded.standing.prices c.args.g c.requires)

told : (c : After-at_least) →
    c.at_least.result ≡ row_met (the_case c.args.energies.now.bounded.priced) (certificate_in c.args.energies.now.bounded.priced.certificate) (flowgate_row c.args.g)
told c =
    c.at_least.ensures
    ∙ rw (c.in_watts-most.ensures, c.flowgate_limit-limit.ensures, c.flow-flows.ensures) (flowgate_met (the_case c.args.energies.now.bounded.priced) (certificate_in c.args.energies.now.bounded.priced.certificate) c.args.energies.now.bounded.priced.case.resources c.args.g (resources_is c.args.energies.now.bounded.standing.prices.case_bytes))

pub returns-then-at_least : goal.returns-then-at_least
returns-then-at_least c =
    sym (passes (row_met (the_case c.args.energies.now.bounded.priced) (certificate_in c.args.energies.now.bounded.priced.certificate)) RowBroken (first_flowgate_row (the_case c.args.energies.now.bounded.priced).version c.args.energies.now.bounded.priced.case.zones + c.args.g) (flowgate_row c.args.g) [] (sym (told (goal.at.returns-then-at_least c).After-at_least) ∙ c.if-at_least.true) ∙ first_none (row_met (the_case c.args.energies.now.bounded.priced) (certificate_in c.args.energies.now.bounded.priced.certificate)) RowBroken _)

pub returns : goal.returns
returns c =
    rw c.first_flowgate_row.ensures (sym (fails (row_met (the_case c.args.energies.now.bounded.priced) (certificate_in c.args.energies.now.bounded.priced.certificate)) RowBroken (first_flowgate_row (the_case c.args.energies.now.bounded.priced).version c.args.energies.now.bounded.priced.case.zones + c.args.g) (flowgate_row c.args.g) [] (sym (told (goal.at.returns c).After-at_least) ∙ c.if-at_least.false)))
