use native.Mathlib.Omega.{arith}
use Rattle.arith.proofs.Magnitudes.{abs-mul, size_least}
use Rattle.bounds.proofs.Figures.{sized_is}
use Rattle.bounds.proofs.least_of.Goals as goal

pub returns : goal.returns
returns c =
    sized_is (rw c.value-whole.ensures at c.negative_part.ensures)
    (size_least (record { le = omega (arith, abs-mul c.args.net.0 c.args.upper.0) })).le
