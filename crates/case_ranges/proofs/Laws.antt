-- A range that starts at 0.
use mathlib.Core.Path.{◌≡◌}
use Prim.Native.Nat.{ℕ}
use lib.Dec.{leb, leb-zero}
use Rattle.market.specs.Bytes.{within}

pub from_zero : (most n : ℕ) → leb n most ≡ within 0 most n
from_zero most n = rw (leb-zero n)
