use mathlib.Core.List.{map, ◌++◌}
use mathlib.Core.Path.{◌≡◌}
use lib.ListN.{drop}
use Rattle.arith.specs.Sums.{upto}
use Rattle.market.specs.Rows.{flowgate_row}
use Rattle.row_charges.specs.Families.{row_charge_in}
use Rattle.prices.specs.PricedCase.{case_bytes, certificate_bytes}
use Rattle.row_charges.proofs.write_flowgates.Given as goal

abbrev pub invariant-loop-g : goal.invariant-loop-g
invariant-loop-g l = l.out ≡ map (row_charge_in (case_bytes l.bounded.priced) (certificate_bytes l.bounded.priced)) (map flowgate_row (upto l.g)) ++ drop l.g l.fn.out
