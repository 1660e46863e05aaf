use Rattle.std.proofs.Common.{◌≡◌}
use Rattle.arith.specs.Sums.{upto, across}
use Rattle.market.specs.declared.Refusal.TheVariants.{AboveBound}
use Rattle.certificate_records.specs.Reader.{certificate_in}
use Rattle.prices.specs.PricedCase.{the_case}
use Rattle.market.specs.Refusals.{clear, first_failing}
use Rattle.market.specs.Outcome.{within_bound}
use Rattle.quantities.specs.Places.{first_provided}
use Rattle.quantities.proofs.Above.{provided}
use Rattle.quantities.proofs.first_provided_above.Given as goal

abbrev pub invariant-loop-i : goal.invariant-loop-i
invariant-loop-i l = first_failing (within_bound (the_case l.priced) (certificate_in l.priced.certificate)) AboveBound (first_provided (the_case l.priced).version) (across (provided (the_case l.priced).version) (upto l.i)) ≡ clear
