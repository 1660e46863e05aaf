use mathlib.Core.List.{map, ◌++◌}
use mathlib.Core.Path.{◌≡◌}
use Prim.Native.Nat.{◌*◌}
use lib.ListN.{drop}
use Rattle.arith.specs.Sums.{upto, across}
use Rattle.market.specs.Case.{zoned_curves}
use Rattle.market.specs.Rows.{zone_row, zone_row_count}
use Rattle.row_charges.specs.Families.{row_charge_in}
use Rattle.prices.specs.PricedCase.{case_bytes, certificate_bytes}
use Rattle.row_charges.proofs.write_zones.Given as goal

abbrev pub invariant-loop-zone : goal.invariant-loop-zone
invariant-loop-zone l = l.out ≡ map (row_charge_in (case_bytes l.have.bounded.priced) (certificate_bytes l.have.bounded.priced)) (across (λ k. map (zone_row k) zoned_curves) (upto l.zone)) ++ drop (l.zone * zone_row_count) l.fn.out
