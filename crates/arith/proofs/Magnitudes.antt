-- Absolute values: of sums, of products; and that a number fits a signed width, as a goal of natural numbers.
use mathlib.Core.Path.{◌≡◌}
use Prim.Native.Nat.{ℕ, suc, ◌+◌, ◌*◌, ◌^◌, ◌<◌, ◌≤◌, max}
use native.Mathlib.Omega.{arith}
use native.Mathlib.Nat.{mul-le-mul}
use lib.IntN.{ℤ, pos, negsuc, neg_ℤ, ◌+ℤ◌, ◌-ℤ◌, ◌*ℤ◌, nat_abs}
use lib.Signed.{◌≤ℤ◌, mag}
use mir.Syntax.{Width}
use mir.Val.{SFits, hbits}
use Rattle.arith.proofs.Parts.{plus_part, minus_part, le_out, plus_part-neg, minus_part-neg, plus_part-mul, minus_part-mul, plus_part-add, minus_part-add, abs_parts, part}
use Rattle.arith.specs.Sums.{min_ℤ}
use Rattle.arith.proofs.Order.{zl, plus_part-min, minus_part-min}

pub abs-add : (a b : ℤ) → nat_abs (a +ℤ b) ≤ nat_abs a + nat_abs b
abs-add a b = omega (arith, abs_parts (a +ℤ b), abs_parts a, abs_parts b, plus_part-add a b, minus_part-add a b)

pub abs_neg : (a : ℤ) → nat_abs (neg_ℤ a) ≡ nat_abs a
abs_neg a = omega (arith, abs_parts (neg_ℤ a), abs_parts a, plus_part-neg a, minus_part-neg a)

pub abs-sub : (a b : ℤ) → nat_abs (a -ℤ b) ≤ nat_abs a + nat_abs b
abs-sub a b = omega (arith, abs-add a (neg_ℤ b), abs_neg b)

pub abs-mul : (a b : ℤ) → nat_abs (a *ℤ b) ≡ nat_abs a * nat_abs b
abs-mul a b = simp (abs_parts, plus_part-mul, minus_part-mul) (omega arith)

-- ---- a number's size in a formula
-- |z| ≤ m, as a record: z and m are inferred, so that a formula's size is built as the formula is
pub record Size (z : ℤ) (m : ℕ) : Type 0 where
  pub le : nat_abs z ≤ m

pub size_nat : {m n : ℕ} → n ≤ m → Size (pos n) m
size_nat h = record { le = h }

pub size_more : {a : ℤ} {m n : ℕ} → Size a m → m ≤ n → Size a n
size_more {a} h k = record { le = omega (arith, h.le) }

pub size-add : {a b : ℤ} {m n : ℕ} → Size a m → Size b n → Size (a +ℤ b) (m + n)
size-add {a} {b} h k = record { le = omega (arith, abs-add a b) }

pub size-sub : {a b : ℤ} {m n : ℕ} → Size a m → Size b n → Size (a -ℤ b) (m + n)
size-sub {a} {b} h k = record { le = omega (arith, abs-sub a b) }

pub size-neg : {a : ℤ} {m : ℕ} → Size a m → Size (neg_ℤ a) m
size-neg {a} h = record { le = omega (arith, abs_neg a) }

pub size-mul : {a b : ℤ} {m n : ℕ} → Size a m → Size b n → Size (a *ℤ b) (m * n)
size-mul {a} {b} h k = record { le = omega (arith, abs-mul a b, mul-le-mul h.le k.le) }

-- the smaller of 0 and z
pub size_least : {z : ℤ} {m : ℕ} → Size z m → Size (min_ℤ (pos 0) z) m
size_least {z} h = record { le = omega (arith, abs_parts (min_ℤ (pos 0) z), abs_parts z, plus_part-min (pos 0) z, minus_part-min (pos 0) z) }

-- a range that is as wide on both sides
pub size_between : (n : ℕ) (v : ℤ) → neg_ℤ (pos n) ≤ℤ v → v ≤ℤ pos n → Size v n
size_between n v h k = record { le = omega (arith, le_out h, le_out k, plus_part-neg (pos n), minus_part-neg (pos n), abs_parts v, part v) }

-- ---- a width's range, exactly
mag_is : (z : ℤ) → max (suc (plus_part z)) (minus_part z) ≡ suc (mag z)
mag_is (pos n) = omega arith
mag_is (negsuc n) = omega arith

pub fits_in : {w : Width} {z : ℤ} → max (suc (plus_part z)) (minus_part z) ≤ 2 ^ hbits w → SFits w z
fits_in {w} {z} h = record { sfits = omega (arith, mag_is z) }

pub fits-plus_part : {w : Width} {z : ℤ} → SFits w z → plus_part z < 2 ^ hbits w
fits-plus_part {w} {z} h = omega (arith, mag_is z, h.sfits)

pub fits-minus_part : {w : Width} {z : ℤ} → SFits w z → minus_part z ≤ 2 ^ hbits w
fits-minus_part {w} {z} h = omega (arith, mag_is z, h.sfits)

-- or by the absolute value
pub fits-abs : {w : Width} {z : ℤ} → nat_abs z < 2 ^ hbits w → SFits w z
fits-abs {w} {z} h = fits_in (omega (arith, abs_parts z))

pub abs-fits : {w : Width} {z : ℤ} → SFits w z → nat_abs z ≤ 2 ^ hbits w
abs-fits {w} {z} h = omega (arith, mag_is z, h.sfits, abs_parts z, part z)

pub ruleset zfits = (zl, fits_in, fits-plus_part, fits-minus_part)

pub ruleset afits = (arith, fits-abs, abs-fits)
