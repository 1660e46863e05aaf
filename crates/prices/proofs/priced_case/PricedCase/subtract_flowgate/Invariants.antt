use Rattle.std.proofs.Common.{◌≡◌, ◌++◌, map, drop}
use Rattle.arith.specs.Sums.{upto}
use Rattle.prices.specs.Figures.{less_flowgate}
use Rattle.prices.specs.PricedCase.{the_case}
use Rattle.prices.proofs.priced_case.PricedCase.subtract_flowgate.Given as goal

abbrev pub invariant-loop-i : goal.invariant-loop-i
invariant-loop-i l = l.out ≡ map (less_flowgate (the_case l.self) l.g l.price.0 l.initial.out) (upto l.i) ++ drop l.i l.initial.out
