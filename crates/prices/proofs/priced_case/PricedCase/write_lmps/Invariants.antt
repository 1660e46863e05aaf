use Rattle.std.proofs.Common.{◌≡◌, ◌++◌, drop}
use Rattle.prices.proofs.Passes.{lmps_after}
use Rattle.prices.specs.PricedCase.{the_case, the_prices}
use Rattle.prices.proofs.priced_case.PricedCase.write_lmps.Given as goal

abbrev pub invariant-loop-g : goal.invariant-loop-g
invariant-loop-g l = l.out ≡ lmps_after (the_case l.self) (the_prices l.self) l.g l.self.case.resources ++ drop l.self.case.resources l.fn.out
