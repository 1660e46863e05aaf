use native.Mathlib.Omega.{arith}
use Rattle.bounds.specs.Terms.{zone_value}
use Rattle.bounds.proofs.zone_value.Goals as goal

pub returns : goal.returns
unfolding zone_value
returns c = record { is = cc; size = omega arith }
