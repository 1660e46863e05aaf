-- The lesser of 0 and a figure, as the library has it.
use Rattle.std.proofs.Common.{◌≡◌, refl, ℤ, pos, negsuc, zero, suc}
use Prim.Native.Nat.compare
use Rattle.std.specs.Int.{int_min}
use Rattle.arith.specs.Sums.{min_ℤ}

pub least_is : (a : ℤ) → int_min a (pos 0) ≡ min_ℤ (pos 0) a
unfolding min_ℤ
least_is (pos zero) = refl
least_is (pos (suc zero)) = refl
least_is (pos (suc (suc n))) = rw (compare.suc-suc, compare.zero-suc) (rw compare.zero-suc)
least_is (negsuc n) = refl
