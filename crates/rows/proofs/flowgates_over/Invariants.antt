use mathlib.Core.Path.{◌≡◌}
use Rattle.arith.specs.Sums.{upto, across}
use Rattle.market.specs.declared.Refusal.TheVariants.{RowBroken}
use Rattle.market.specs.Refusals.{clear, first_failing}
use Rattle.market.specs.Outcome.{row_met}
use mathlib.Core.List.{[], ◌∷◌}
use Rattle.market.specs.Rows.{flowgate_row}
use Rattle.rows.specs.Tests.{first_flowgate_row}
use Rattle.prices.specs.PricedCase.{the_case}
use Rattle.certificate_records.specs.Reader.{certificate_in}
use Rattle.rows.proofs.flowgates_over.Given as goal

abbrev pub invariant-loop-g : goal.invariant-loop-g
invariant-loop-g l = first_failing (row_met (the_case l.bounded.priced) (certificate_in l.bounded.priced.certificate)) RowBroken (first_flowgate_row (the_case l.bounded.priced).version l.bounded.priced.case.zones) (across (λ g. flowgate_row g ∷ []) (upto l.g)) ≡ clear
