-- The lesser and the larger of two, as the library has them and as the definitions do.
use Rattle.std.proofs.Common.{◌≡◌, ℤ}
use native.Mathlib.Omega.{arith}
use Rattle.std.specs.Int.{int_min, int_max}
use Rattle.arith.specs.Sums.{min_ℤ, max_ℤ}

pub lesser_is : (a b : ℤ) → int_min a b ≡ min_ℤ a b
unfolding min_ℤ
lesser_is a b = grind arith

pub larger_is : (a b : ℤ) → int_max a b ≡ max_ℤ a b
unfolding max_ℤ
larger_is a b = grind arith
