use mathlib.Core.List.{map, ◌++◌}
use mathlib.Core.Path.{◌≡◌}
use Prim.Native.Nat.{◌*◌}
use lib.ListN.{drop}
use Rattle.arith.specs.Sums.{upto, across}
use Rattle.market.specs.Rows.{limit_row, limits, resource_row_count}
use Rattle.row_charges.specs.Families.{row_charge_in}
use Rattle.prices.specs.PricedCase.{the_case, case_bytes, certificate_bytes}
use Rattle.row_charges.proofs.write_resources.Given as goal

abbrev pub invariant-loop-i : goal.invariant-loop-i
invariant-loop-i l = l.out ≡ map (row_charge_in (case_bytes l.kept.bounded.priced) (certificate_bytes l.kept.bounded.priced)) (across (λ k. map (limit_row k) (limits (the_case l.kept.bounded.priced).version)) (upto l.i)) ++ drop (l.i * resource_row_count (the_case l.kept.bounded.priced).version) l.fn.out
