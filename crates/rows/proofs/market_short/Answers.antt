use Rattle.market.specs.declared.Refusal.TheVariants.{RowBroken}
use Rattle.market.specs.Rows.{market_rows}
use Rattle.market.specs.Outcome.{row_met}
use Rattle.case_records.proofs.Places.{resources_is}
use Rattle.units.proofs.Search.{first_false_lem}
use Rattle.prices.proofs.Known.{no_cleared}
use Rattle.rows.proofs.Tests.{market_tests}
use Rattle.prices.specs.PricedCase.{the_case}
use Rattle.certificate_records.specs.Reader.{certificate_in}
use Rattle.rows.proofs.market_short.Goals as goal

pub returns : goal.returns
returns c =
    rw (c.first_short.ensures, c.args.have.now.market_given, c.cleared-need.ensures, market_tests (the_case c.args.have.now.bounded.priced) (certificate_in c.args.have.now.bounded.priced.certificate) (no_cleared c.args.have.now.bounded.standing.prices) c.args.have.now.bounded.priced.case.resources (resources_is c.args.have.now.bounded.standing.prices.case_bytes) 2)
    (first_false_lem (row_met (the_case c.args.have.now.bounded.priced) (certificate_in c.args.have.now.bounded.priced.certificate)) RowBroken 2 (market_rows (the_case c.args.have.now.bounded.priced)))
