use mathlib.Core.Path.{◌≡◌}
use Rattle.rows.specs.Tests.{first_zone_row}
use Rattle.arith.specs.Sums.{upto, across}
use Rattle.market.specs.declared.Refusal.TheVariants.{RowBroken}
use Rattle.market.specs.Refusals.{clear, first_failing}
use Rattle.market.specs.Outcome.{row_met}
use mathlib.Core.List.{map}
use Rattle.market.specs.Case.{zoned_curves}
use Rattle.market.specs.Rows.{zone_row}
use Rattle.prices.specs.PricedCase.{the_case}
use Rattle.certificate_records.specs.Reader.{certificate_in}
use Rattle.rows.proofs.zones_short.Given as goal

abbrev pub invariant-loop-zone : goal.invariant-loop-zone
invariant-loop-zone l = first_failing (row_met (the_case l.have.bounded.priced) (certificate_in l.have.bounded.priced.certificate)) RowBroken (first_zone_row (the_case l.have.bounded.priced).version) (across (λ y. map (zone_row y) zoned_curves) (upto l.zone)) ≡ clear
