use mathlib.Core.List.{List, ◌++◌, map}
use mathlib.Core.Path.{◌≡◌, ap, ◌∙◌}
use native.Mathlib.Omega.{arith}
use lib.IntN.{ℤ}
use lib.ListN.{drop}
use Rattle.market.specs.Case.{zoned_curves}
use Rattle.market.specs.Rows.{market_row, zone_row_count}
use Rattle.case_records.proofs.Places.{resources_is}
use Rattle.prices.proofs.Known.{case_ranges, prices_in_range}
use Rattle.row_charges.specs.Families.{row_charge_in}
use Rattle.row_charges.proofs.FromRecords.{market_charges}
use Rattle.row_charges.proofs.Fit.{market_room}
use Rattle.row_charges.proofs.Written.{four_written}
use Rattle.prices.specs.PricedCase.{the_case, the_prices, the_amounts, case_bytes, certificate_bytes}
use Rattle.row_charges.proofs.write_market.Goals as goal
use Rattle.row_charges.proofs.write_market.Goals.{After-write_four}

pub write_four-requires : goal.write_four-requires
write_four-requires c =
    rw (c.market_prices-prices.ensures, c.args.have.now.market_given, c.cleared-need.ensures)
    (market_room (the_case c.args.have.now.bounded.priced) (the_amounts c.args.have.now.bounded.priced) (the_prices c.args.have.now.bounded.priced) (case_ranges c.args.have.now.bounded.standing.prices) (prices_in_range c.args.have.now.bounded.standing.prices) c.args.have.now.bounded.standing.bounded c.args.have.now.bounded.priced.case.resources (resources_is c.args.have.now.bounded.standing.prices.case_bytes), omega (arith, c.requires))

-- the rows that zones have too
four : (c : After-write_four) →
    c.write_four.new.out ≡ map (row_charge_in (case_bytes c.args.have.now.bounded.priced) (certificate_bytes c.args.have.now.bounded.priced)) (map market_row zoned_curves) ++ drop zone_row_count c.args.out.now
four c =
    c.write_four.ensures
    ∙ rw (c.market_prices-prices.ensures, c.args.have.now.market_given, c.cleared-need.ensures)
    (ap (λ (l : List ℤ). l ++ drop zone_row_count c.args.out.now) (market_charges (the_case c.args.have.now.bounded.priced) (the_amounts c.args.have.now.bounded.priced) (the_prices c.args.have.now.bounded.priced) c.args.have.now.bounded.priced.case.resources (resources_is c.args.have.now.bounded.standing.prices.case_bytes)))

pub returns : goal.returns
returns c = four_written (row_charge_in (case_bytes c.args.have.now.bounded.priced) (certificate_bytes c.args.have.now.bounded.priced)) (the_case c.args.have.now.bounded.priced) c.args.out.now c.write_four.new.out (four (goal.at.returns c).After-write_four)
