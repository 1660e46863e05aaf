-- Signed 64-bit numbers as the machine holds them: a number's bits, and tests on signed numbers.
use mathlib.Core.Path.{◌≡◌, refl, sym, ap, ◌∙◌}
use mathlib.Core.Bool.{Bool, true, false, not}
use Prim.Native.Nat.{ℕ, ◌<◌, ◌^◌}
use native.Mathlib.Omega.{arith}
use lib.Dec.{ltb, leb}
use lib.IntN.{ℤ, pos, negsuc}
use lib.Signed.{lt_z, le_z, mag}
use mir.Syntax.{w64}
use mir.Val.{to_z, of_z, hbits}
use mir.Facts.{to_z_pos, to_z-of_z}
use borrow.Author.Rules.{sfits_of}
use borrow.Author.Tests.{le-leb, lt-leb, ltb-true, ltb-false}

-- a number below 2^63 as the bits of a signed one
pub small_bits : (n : ℕ) → n < 9223372036854775808 → to_z w64 n ≡ pos n
small_bits n h = to_z_pos w64 h

-- a signed number read back from its bits: what a field of a struct tells of itself
pub read_back : {z : ℤ} → mag z < 2 ^ hbits w64 → to_z w64 (of_z w64 z) ≡ z
read_back h = to_z-of_z (sfits_of {w = w64} h)

-- one whose bits are 0
pub zero_bits : {z : ℤ} → mag z < 2 ^ hbits w64 → of_z w64 z ≡ 0 → z ≡ pos 0
zero_bits h e = sym (read_back h) ∙ ap (to_z w64) e ∙ small_bits 0 (omega arith)

-- 'at most' is 'not above'
leb_by : (a b : ℕ) (t : Bool) → ltb b a ≡ t → leb a b ≡ not t
leb_by a b true e = lt-leb a b (ltb-true b a e)
leb_by a b false e = le-leb a b (ltb-false b a e)

pub leb_flip : (a b : ℕ) → leb a b ≡ not (ltb b a)
leb_flip a b = leb_by a b (ltb b a) refl

pub le_z_flip : (a b : ℤ) → le_z b a ≡ not (lt_z a b)
le_z_flip (pos a) (pos b) = leb_flip b a
le_z_flip (pos a) (negsuc b) = refl
le_z_flip (negsuc a) (pos b) = refl
le_z_flip (negsuc a) (negsuc b) = leb_flip a b
