use Rattle.std.proofs.Common.{◌≡◌, ◌*ℤ◌}
use Rattle.arith.specs.Sums.{sum_of, upto}
use Rattle.market.specs.Rows.{flowgate_row}
use Rattle.market.specs.Records.{millicents}
use Rattle.prices.specs.PricedCase.{the_case, the_prices}
use Rattle.prices.proofs.priced_case.PricedCase.congestion.Given as goal

abbrev pub invariant-loop-g : goal.invariant-loop-g
invariant-loop-g l = l.sum ≡ millicents (sum_of (λ g. (the_prices l.self) (flowgate_row g) *ℤ (the_case l.self).shift_factor g l.i) (upto l.g))
