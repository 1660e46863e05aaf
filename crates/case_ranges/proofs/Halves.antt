-- A number in two's complement, tested without its sign: at most so much either way is at the bottom or at the top;
-- zero is zero; and half the range further on, two of them stand in their order.
use mathlib.Core.Path.{◌≡◌, refl, sym, ◌∙◌}
use mathlib.Core.Bool.{Bool, true, false}
use Prim.Native.Nat.{ℕ, zero, suc, ◌+◌, ◌-◌, ◌%◌, ◌<◌, ◌≤◌}
use native.Mathlib.Decide.{dec_lt}
use native.Mathlib.Omega.{arith}
use lib.Dec.{T, leb, ltb, eqb, leb-zero, leb-suc-zero, leb-suc-suc}
use lib.IntN.{ℤ, pos, negsuc, neg_ℤ, ◌-ℤ◌, nat_abs}
use lib.Signed.{le_z, ◌≤ℤ◌}
use borrow.Author.Tests.{lt-ltb, le-ltb, le-leb, lt-leb, eq-eqb, ne_eqb}
use Rattle.arith.proofs.Parts.{plus_part, minus_part, le_in, le_out, plus_part-neg, minus_part-neg, add_fact, abs_parts, part}
use Rattle.arith.proofs.AllTests.{and_true}
use Rattle.market.specs.Bytes.{signed, within_ℤ, either_way}

-- n is a number in two's complement of a width whose half range is `half`, and most lies below that half
pub record Halved (n half most : ℕ) : Type 0 where
  pub number : n < half + half
  pub largest : most < half
  pub width : half ≤ 2147483648

-- by the absolute value
either_abs : (m : ℕ) (z : ℤ) → either_way m z ≡ leb (nat_abs z) m
either_abs zero (pos n) = rw (leb-zero n)
either_abs (suc m) (pos n) = refl
either_abs zero (negsuc n) = sym (leb-suc-zero n)
either_abs (suc m) (negsuc n) = rw (and_true, leb-suc-suc n m)

abs_low : (n half : ℕ) → n < half → nat_abs (signed half n) ≡ n
abs_low n half l = rw (lt-ltb n half l)

abs_high : (n half : ℕ) → half ≤ n → n < half + half → nat_abs (signed half n) + n ≡ half + half
abs_high n half l k =
    let z = pos n -ℤ pos (half + half) in
    rw (le-ltb n half l) (omega (arith, abs_parts z, part z, add_fact (pos n) (neg_ℤ (pos (half + half))), plus_part-neg (pos (half + half)), minus_part-neg (pos (half + half))))

module _ {n half most : ℕ} (h : Halved n half most) where
  pub at_bottom : n ≤ most → either_way most (signed half n) ≡ true
  at_bottom l = either_abs most (signed half n) ∙ rw (abs_low n half (omega arith)) (le-leb n most l)

  pub at_top : most < n → either_way most (signed half n) ≡ ltb (half - 1 + (half - most)) n
  at_top l = either_abs most (signed half n) ∙ go (dec_lt n half) (dec_lt (half - 1 + (half - most)) n)
    where
      go : Dec (n < half) → Dec (half - 1 + (half - most) < n) → leb (nat_abs (signed half n)) most ≡ ltb (half - 1 + (half - most)) n
      go (yes a) d = rw (abs_low n half a) (lt-leb n most l ∙ sym (le-ltb _ n (omega arith)))
      go (no a) (yes d) = le-leb _ most (omega (arith, abs_high n half (omega arith) h.number)) ∙ sym (lt-ltb _ n d)
      go (no a) (no d) = lt-leb _ most (omega (arith, abs_high n half (omega arith) h.number)) ∙ sym (le-ltb _ n (omega arith))

-- ---- zero
nonzero : (m n : ℕ) → (m ≡ 0 → n ≡ 0) → 0 < n → 0 < m
nonzero zero n h l = absurd (omega (arith, h refl))
nonzero (suc m) n h l = omega arith

zero-abs : (z : ℤ) (n : ℕ) → (nat_abs z ≡ 0 → n ≡ 0) → (n ≡ 0 → nat_abs z ≡ 0) → within_ℤ (pos 0) (pos 0) z ≡ eqb n 0
zero-abs z n h k = either_abs 0 z ∙ go (dec_lt 0 n)
  where
    go : Dec (0 < n) → leb (nat_abs z) 0 ≡ eqb n 0
    go (yes l) = lt-leb (nat_abs z) 0 (nonzero (nat_abs z) n h l) ∙ sym (ne_eqb n 0 (λ e. omega arith))
    go (no l) = le-leb (nat_abs z) 0 (omega (arith, k (omega arith))) ∙ sym (eq-eqb n 0 (omega arith))

pub zero_plain : (n : ℕ) → within_ℤ (pos 0) (pos 0) (pos n) ≡ eqb n 0
zero_plain n = zero-abs (pos n) n (λ e. e) (λ e. e)

pub zero_signed : (n half : ℕ) → n < half + half → within_ℤ (pos 0) (pos 0) (signed half n) ≡ eqb n 0
zero_signed n half l = go (dec_lt n half)
  where
    go : Dec (n < half) → within_ℤ (pos 0) (pos 0) (signed half n) ≡ eqb n 0
    go (yes a) = zero-abs (signed half n) n (λ e. omega (arith, abs_low n half a)) (λ e. omega (arith, abs_low n half a))
    go (no a) = zero-abs (signed half n) n (λ e. omega (arith, abs_high n half (omega arith) l)) (λ e. omega (arith, abs_high n half (omega arith) l))

-- ---- order, at 32 bits
shifted_by : (n : ℕ) → n < 4294967296 → Dec (n < 2147483648) → (n + 2147483648) % 4294967296 + minus_part (signed 2147483648 n) ≡ 2147483648 + plus_part (signed 2147483648 n)
shifted_by n l (yes a) = rw (lt-ltb n 2147483648 a) (omega arith)
shifted_by n l (no a) =
    let z = pos n -ℤ pos 4294967296 in
    rw (le-ltb n 2147483648 (omega arith)) (omega (arith, part z, add_fact (pos n) (neg_ℤ (pos 4294967296)), plus_part-neg (pos 4294967296), minus_part-neg (pos 4294967296)))

abbrev shifted : ℕ → ℕ
shifted n = (n + 2147483648) % 4294967296

is_true : (t : Bool) → T t → t ≡ true
is_true true h = refl
is_true false h = absurd h

is_false : (t : Bool) → (T t → ⊥) → t ≡ false
is_false true h = absurd (h tt)
is_false false h = refl

pub shifted_order : (a b : ℕ) → a < 4294967296 → b < 4294967296 → leb (shifted a) (shifted b) ≡ le_z (signed 2147483648 a) (signed 2147483648 b)
shifted_order a b k l = go (signed 2147483648 a) (signed 2147483648 b) (shifted_by a k (dec_lt a 2147483648)) (shifted_by b l (dec_lt b 2147483648)) (dec_lt (shifted b) (shifted a))
  where
    go : (y z : ℤ) → shifted a + minus_part y ≡ 2147483648 + plus_part y → shifted b + minus_part z ≡ 2147483648 + plus_part z → Dec (shifted b < shifted a) → leb (shifted a) (shifted b) ≡ le_z y z
    go y z e f (yes d) = lt-leb (shifted a) (shifted b) d ∙ sym (is_false (le_z y z) (λ t. omega (arith, le_out {a = y} {b = z} (record { le = t }))))
    go y z e f (no d) =
        let h : y ≤ℤ z = le_in (omega arith) in
        le-leb (shifted a) (shifted b) (omega arith) ∙ sym (is_true (le_z y z) h.le)
