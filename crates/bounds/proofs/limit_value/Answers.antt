use native.Mathlib.Omega.{arith}
use Rattle.bounds.specs.Terms.{limit_value}
use Rattle.bounds.proofs.limit_value.Goals as goal

pub returns : goal.returns
unfolding limit_value
returns c = record { is = cc; size = omega arith }
