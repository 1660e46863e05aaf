use Rattle.std.proofs.Common.{map, ◌+◌, ◌*◌, arith}
use Rattle.market.specs.declared.Refusal.TheVariants.{RowBroken}
use Rattle.market.specs.Case.{zoned_curves}
use Rattle.market.specs.Records.{zone_requirements_of}
use Rattle.market.specs.Rows.{zone_row, zone_row_count}
use Rattle.market.specs.Outcome.{row_met}
use Rattle.case_records.proofs.Places.{resources_is}
use Rattle.units.proofs.Search.{first_false_lem}
use Rattle.rows.specs.Tests.{first_zone_row}
use Rattle.rows.proofs.Tests.{zone_tests}
use Rattle.reserves.specs.Given.{zone_total}
use Rattle.arith.proofs.Tables.{table_entry}
use Rattle.prices.specs.PricedCase.{the_case, case_bytes, certificate_bytes}
use Rattle.certificate_records.specs.Reader.{certificate_in}
use Rattle.rows.proofs.zone_short.Goals as goal

pub returns : goal.returns
unfolding zone_requirements_of
returns c =
    rw (c.first_short.ensures, c.first_zone_row.ensures, c.args.have.now.zones_given, table_entry _ (zone_total (case_bytes c.args.have.now.bounded.priced) (certificate_bytes c.args.have.now.bounded.priced) c.args.have.now.bounded.priced.case.resources) 8 c.args.zone (omega (arith, c.requires, c.args.have.now.bounded.standing.prices.case_bytes.counts.most_zones)), c.zone-need.ensures, zone_tests (the_case c.args.have.now.bounded.priced) (certificate_in c.args.have.now.bounded.priced.certificate) c.args.have.now.bounded.priced.case.resources c.args.zone (resources_is c.args.have.now.bounded.standing.prices.case_bytes))
    (first_false_lem (row_met (the_case c.args.have.now.bounded.priced) (certificate_in c.args.have.now.bounded.priced.certificate)) RowBroken (first_zone_row (the_case c.args.have.now.bounded.priced).version + c.args.zone * zone_row_count) (map (zone_row c.args.zone) zoned_curves))
