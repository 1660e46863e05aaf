use mathlib.Core.List.{List, ◌++◌}
use mathlib.Core.Path.{ap, ◌∙◌}
use native.Mathlib.Omega.{arith}
use lib.IntN.{ℤ}
use lib.ListN.{drop}
use Rattle.market.specs.Rows.{zone_row_count}
use Rattle.market.specs.Records.{zone_requirements_of}
use Rattle.case_records.proofs.Places.{resources_is}
use Rattle.prices.proofs.Known.{case_ranges, prices_in_range, zone_below}
use Rattle.row_charges.proofs.FromRecords.{zone_charges}
use Rattle.row_charges.proofs.Fit.{zone_room}
use Rattle.reserves.specs.Given.{zone_total}
use Rattle.arith.proofs.Tables.{table_entry}
use Rattle.prices.specs.PricedCase.{the_case, the_prices, the_amounts, case_bytes, certificate_bytes}
use Rattle.row_charges.proofs.write_zone.Goals as goal

pub write_four-requires : goal.write_four-requires
unfolding zone_requirements_of
write_four-requires c =
    rw (c.zone_prices-prices.ensures, c.args.have.now.zones_given, table_entry _ (zone_total (case_bytes c.args.have.now.bounded.priced) (certificate_bytes c.args.have.now.bounded.priced) c.args.have.now.bounded.priced.case.resources) 8 c.args.zone (omega (arith, c.requires.0, c.args.have.now.bounded.standing.prices.case_bytes.counts.most_zones)), c.zone-need.ensures) (
      zone_room (the_case c.args.have.now.bounded.priced) (the_amounts c.args.have.now.bounded.priced) (the_prices c.args.have.now.bounded.priced) (case_ranges c.args.have.now.bounded.standing.prices) (prices_in_range c.args.have.now.bounded.standing.prices) c.args.have.now.bounded.standing.bounded
          c.args.have.now.bounded.priced.case.resources c.args.zone (resources_is c.args.have.now.bounded.standing.prices.case_bytes) (zone_below c.args.have.now.bounded.standing.prices c.requires.0),
      c.requires.1,
    )

pub returns : goal.returns
unfolding zone_requirements_of
returns c =
    c.write_four.ensures
    ∙ rw (c.zone_prices-prices.ensures, c.args.have.now.zones_given, table_entry _ (zone_total (case_bytes c.args.have.now.bounded.priced) (certificate_bytes c.args.have.now.bounded.priced) c.args.have.now.bounded.priced.case.resources) 8 c.args.zone (omega (arith, c.requires.0, c.args.have.now.bounded.standing.prices.case_bytes.counts.most_zones)), c.zone-need.ensures)
    (ap (λ (l : List ℤ). l ++ drop zone_row_count c.args.out.now) (zone_charges (the_case c.args.have.now.bounded.priced) (the_amounts c.args.have.now.bounded.priced) (the_prices c.args.have.now.bounded.priced) c.args.have.now.bounded.priced.case.resources c.args.zone (resources_is c.args.have.now.bounded.standing.prices.case_bytes)))
