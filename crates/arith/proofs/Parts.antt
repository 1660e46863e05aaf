-- The positive part and the negative part of an integer, z = plus_part z - minus_part z, and how an order or an equation of
-- integers is one of natural numbers by them, which is what `omega` reads.
use mathlib.Core.Path.{◌≡◌, refl, ap}
use mathlib.Core.Bool.{Bool, true, false, not, cond}
use Prim.Native.Nat.{ℕ, zero, suc, ◌+◌, ◌*◌, ◌-◌, ◌<◌, ◌≤◌, min}
use native.Mathlib.Omega.{arith}
use lib.Dec.{T, ltb, ltb→lt, nltb→le, leb→le, le→leb, lt→ltb}
use lib.IntN.{ℤ, pos, negsuc, neg_ℤ, sub_ℕ, ◌+ℤ◌, ◌*ℤ◌, nat_abs}
use lib.Signed.{◌≤ℤ◌, le_z, ◌<ℤ◌, lt_z}

abbrev pub plus_part : ℤ → ℕ
plus_part (pos n) = n
plus_part (negsuc n) = 0

abbrev pub minus_part : ℤ → ℕ
minus_part (pos n) = 0
minus_part (negsuc n) = suc n

-- ---- orders and equations
pub le_out : {a b : ℤ} → a ≤ℤ b → plus_part a + minus_part b ≤ plus_part b + minus_part a
le_out {a} {b} h = go a b h.le
  where
    go : (a b : ℤ) → T (le_z a b) → plus_part a + minus_part b ≤ plus_part b + minus_part a
    go (pos a) (pos b) t = omega (arith, leb→le a b t)
    go (pos a) (negsuc b) t = absurd t
    go (negsuc a) (pos b) t = omega arith
    go (negsuc a) (negsuc b) t = omega (arith, leb→le b a t)

pub le_in : {a b : ℤ} → plus_part a + minus_part b ≤ plus_part b + minus_part a → a ≤ℤ b
le_in {a} {b} h = record { le = go a b h }
  where
    go : (a b : ℤ) → plus_part a + minus_part b ≤ plus_part b + minus_part a → T (le_z a b)
    go (pos a) (pos b) h = le→leb a b (omega arith)
    go (pos a) (negsuc b) h = absurd (omega arith)
    go (negsuc a) (pos b) h = tt
    go (negsuc a) (negsuc b) h = le→leb b a (omega arith)

pub lt_out : {a b : ℤ} → a <ℤ b → plus_part a + minus_part b < plus_part b + minus_part a
lt_out {a} {b} h = go a b h.lt
  where
    go : (a b : ℤ) → T (lt_z a b) → plus_part a + minus_part b < plus_part b + minus_part a
    go (pos a) (pos b) t = omega (arith, ltb→lt a b t)
    go (pos a) (negsuc b) t = absurd t
    go (negsuc a) (pos b) t = omega arith
    go (negsuc a) (negsuc b) t = omega (arith, ltb→lt b a t)

pub lt_in : {a b : ℤ} → plus_part a + minus_part b < plus_part b + minus_part a → a <ℤ b
lt_in {a} {b} h = record { lt = go a b h }
  where
    go : (a b : ℤ) → plus_part a + minus_part b < plus_part b + minus_part a → T (lt_z a b)
    go (pos a) (pos b) h = lt→ltb a b (omega arith)
    go (pos a) (negsuc b) h = absurd (omega arith)
    go (negsuc a) (pos b) h = tt
    go (negsuc a) (negsuc b) h = lt→ltb b a (omega arith)

pub eq_out : {a b : ℤ} → a ≡ b → plus_part a + minus_part b ≡ plus_part b + minus_part a
eq_out {a} {b} e = rw e

eq_go : (a b : ℤ) → plus_part a + minus_part b ≡ plus_part b + minus_part a → a ≡ b
eq_go (pos a) (pos b) h = ap pos (omega arith)
eq_go (pos a) (negsuc b) h = absurd (omega arith)
eq_go (negsuc a) (pos b) h = absurd (omega arith)
eq_go (negsuc a) (negsuc b) h = ap negsuc (omega arith)

pub eq_in : {a b : ℤ} → plus_part a + minus_part b ≡ plus_part b + minus_part a → a ≡ b
eq_in {a} {b} h = eq_go a b h

-- ---- the parts of a negation, a sum, a product
neg-pos : (k : ℕ) → (plus_part (neg_ℤ (pos k)) ≡ 0) × (minus_part (neg_ℤ (pos k)) ≡ k)
neg-pos zero = (refl, refl)
neg-pos (suc k) = (refl, refl)

pub plus_part-neg : (a : ℤ) → plus_part (neg_ℤ a) ≡ minus_part a
plus_part-neg (pos a) = (neg-pos a).0
plus_part-neg (negsuc a) = refl

pub minus_part-neg : (a : ℤ) → minus_part (neg_ℤ a) ≡ plus_part a
minus_part-neg (pos a) = (neg-pos a).1
minus_part-neg (negsuc a) = refl

pub plus_part-sub : (a b : ℕ) → plus_part (sub_ℕ a b) ≡ a - b
plus_part-sub a b = go (ltb a b) (λ t. ltb→lt a b t)
  where
    go : (c : Bool) → (T c → a < b) → plus_part (cond c (negsuc (b - suc a)) (pos (a - b))) ≡ a - b
    go true h = omega (arith, h tt)
    go false h = refl

pub minus_part-sub : (a b : ℕ) → minus_part (sub_ℕ a b) ≡ b - a
minus_part-sub a b = go (ltb a b) (λ t. ltb→lt a b t) (λ t. nltb→le a b t)
  where
    go : (c : Bool) → (T c → a < b) → (T (not c) → b ≤ a) → minus_part (cond c (negsuc (b - suc a)) (pos (a - b))) ≡ b - a
    go true h k = omega (arith, h tt)
    go false h k = omega (arith, k tt)

pub plus_part-add : (a b : ℤ) → plus_part (a +ℤ b) ≡ (plus_part a + plus_part b) - (minus_part a + minus_part b)
plus_part-add (pos a) (pos b) = omega arith
plus_part-add (pos a) (negsuc b) = omega (arith, plus_part-sub a (suc b))
plus_part-add (negsuc a) (pos b) = omega (arith, plus_part-sub b (suc a))
plus_part-add (negsuc a) (negsuc b) = omega arith

pub minus_part-add : (a b : ℤ) → minus_part (a +ℤ b) ≡ (minus_part a + minus_part b) - (plus_part a + plus_part b)
minus_part-add (pos a) (pos b) = omega arith
minus_part-add (pos a) (negsuc b) = omega (arith, minus_part-sub a (suc b))
minus_part-add (negsuc a) (pos b) = omega (arith, minus_part-sub b (suc a))
minus_part-add (negsuc a) (negsuc b) = omega arith

pub plus_part-mul : (a b : ℤ) → plus_part (a *ℤ b) ≡ plus_part a * plus_part b + minus_part a * minus_part b
plus_part-mul (pos a) (pos b) = omega arith
plus_part-mul (pos a) (negsuc b) = omega (arith, (neg-pos (a * suc b)).0)
plus_part-mul (negsuc a) (pos b) = omega (arith, (neg-pos (suc a * b)).0)
plus_part-mul (negsuc a) (negsuc b) = omega arith

pub minus_part-mul : (a b : ℤ) → minus_part (a *ℤ b) ≡ plus_part a * minus_part b + minus_part a * plus_part b
minus_part-mul (pos a) (pos b) = omega arith
minus_part-mul (pos a) (negsuc b) = omega (arith, (neg-pos (a * suc b)).1)
minus_part-mul (negsuc a) (pos b) = omega (arith, (neg-pos (suc a * b)).1)
minus_part-mul (negsuc a) (negsuc b) = omega arith

-- the sum, without a truncated difference
pub add_fact : (a b : ℤ) → plus_part (a +ℤ b) + (minus_part a + minus_part b) ≡ minus_part (a +ℤ b) + (plus_part a + plus_part b)
add_fact a b = omega (arith, plus_part-add a b, minus_part-add a b)

-- one of the parts is zero
pub plus_part-or-minus_part : (a : ℤ) → plus_part a * minus_part a ≡ 0
plus_part-or-minus_part (pos a) = omega arith
plus_part-or-minus_part (negsuc a) = omega arith

pub abs_parts : (a : ℤ) → nat_abs a ≡ plus_part a + minus_part a
abs_parts (pos a) = omega arith
abs_parts (negsuc a) = omega arith

-- the same, as omega reads it
pub part : (a : ℤ) → min (plus_part a) (minus_part a) ≡ 0
part (pos a) = omega arith
part (negsuc a) = omega arith
