use mathlib.Core.Path.{◌≡◌}
use Rattle.arith.specs.Sums.{upto, across}
use Rattle.market.specs.declared.Refusal.TheVariants.{RowBroken}
use Rattle.market.specs.Refusals.{clear, first_failing}
use Rattle.market.specs.Outcome.{row_met}
use mathlib.Core.List.{map}
use Rattle.market.specs.Rows.{limit_row, limits}
use Rattle.rows.specs.Tests.{first_limit_row}
use Rattle.prices.specs.PricedCase.{the_case}
use Rattle.certificate_records.specs.Reader.{certificate_in}
use Rattle.rows.proofs.resources_outside.Given as goal

abbrev pub invariant-loop-i : goal.invariant-loop-i
invariant-loop-i l = first_failing (row_met (the_case l.kept.bounded.priced) (certificate_in l.kept.bounded.priced.certificate)) RowBroken (first_limit_row (the_case l.kept.bounded.priced).version l.kept.bounded.priced.case.zones l.kept.bounded.priced.case.flowgates) (across (λ i. map (limit_row i) (limits (the_case l.kept.bounded.priced).version)) (upto l.i)) ≡ clear
