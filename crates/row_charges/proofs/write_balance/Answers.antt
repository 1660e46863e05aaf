use Rattle.prices.proofs.SameCounts.{same_resources}
use mathlib.Core.List.{[], ◌∷◌}
use Rattle.arith.specs.Sums.{upto}
use Rattle.std.proofs.Common.{◌≡◌, ap, arith, rules, w64, to_z, of_z}
use Rattle.std.proofs.lemmas.Int.{to_z-of_z}
use Rattle.market.specs.Rows.{balance_row}
use Rattle.case_records.proofs.Places.{resources_is}
use Rattle.prices.proofs.Known.{case_ranges, prices_in_range}
use Rattle.flows.proofs.Parts.{energy_bounded}
use Rattle.arith.proofs.Buffers.{store_front}
use Rattle.row_charges.specs.Families.{row_charge_in}
use Rattle.row_charges.proofs.FromRecords.{balance_charge}
use Rattle.row_charges.proofs.Fit.{balance_room}
use Rattle.prices.specs.PricedCase.{the_case, the_prices, the_amounts, case_bytes, certificate_bytes}
use Rattle.row_charges.proofs.write_balance.Goals as goal

pub energy_total-total-requires : goal.energy_total-total-requires
energy_total-total-requires c = rw (same_resources c.args.bounded.now.priced) (energy_bounded c.args.bounded.now.standing)

pub charge-value-requires : goal.charge-value-requires
charge-value-requires c =
    rw (c.balance_price-price.ensures, c.energy_total-total.ensures, ap upto (same_resources c.args.bounded.now.priced), c.demand-demand.ensures)
    (balance_room (the_case c.args.bounded.now.priced) (the_amounts c.args.bounded.now.priced) (the_prices c.args.bounded.now.priced) (case_ranges c.args.bounded.now.standing.prices) (prices_in_range c.args.bounded.now.standing.prices) c.args.bounded.now.standing.bounded c.args.bounded.now.priced.case.resources (resources_is c.args.bounded.now.standing.prices.case_bytes))

pub returns : goal.returns
returns c =
    let value = c.charge-value.result.0 in
    let e : to_z w64 (of_z w64 value) ≡ value = search (rules, to_z-of_z) in
    rw (
      e,
      c.charge-value.ensures,
      c.balance_price-price.ensures,
      c.energy_total-total.ensures,
      ap upto (same_resources c.args.bounded.now.priced),
      c.demand-demand.ensures,
      balance_charge (the_case c.args.bounded.now.priced) (the_amounts c.args.bounded.now.priced) (the_prices c.args.bounded.now.priced) c.args.bounded.now.priced.case.resources (resources_is c.args.bounded.now.standing.prices.case_bytes),
    )
    (store_front (row_charge_in (case_bytes c.args.bounded.now.priced) (certificate_bytes c.args.bounded.now.priced) balance_row ∷ []) c.args.out.now (omega arith))
