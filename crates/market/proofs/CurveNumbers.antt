-- A curve's number is one of as many as the version has curves.
use Prim.Native.Nat.{◌<◌}
use native.Mathlib.Omega.{arith}
use lib.Dec.{T}
use lib.ListN.{length}
use Rattle.market.specs.Version.{Version}
use Rattle.market.specs.Case.{Curve, operating, regulating_plus_spinning, regulating, short_term, has_curve, curves, curve_number}

pub number_within : (version : Version) (k : Curve) → T (has_curve version k) → curve_number k < length (curves version)
number_within version operating t = omega arith
number_within version regulating_plus_spinning t = omega arith
number_within version regulating t = omega arith
number_within version short_term t = omega arith
