-- The laws of the ordered ring of the integers that `lib.IntN` and `lib.Signed` lack, and of the smaller and the larger of two.
use mathlib.Core.Path.{◌≡◌, refl, sym, ◌∙◌, ap, subst}
use Prim.Native.Nat.{ℕ, ◌+◌, ◌*◌, ◌-◌, ◌≤◌, ◌<◌, min, max}
use native.Mathlib.Omega.{arith}
use lib.IntN.{ℤ, pos, negsuc, neg_ℤ, ◌+ℤ◌, ◌-ℤ◌, ◌*ℤ◌, *ℤ_comm}
use lib.Dec.{T, leb, leb→le, nleb→lt}
use lib.Signed.{◌≤ℤ◌, le_z}
use mathlib.Core.Logic.{◌⊎◌, inl, inr}
use mathlib.Core.Bool.{Bool, true, false, not, cond}
use Rattle.arith.specs.Sums.{min_ℤ, max_ℤ}
use Rattle.arith.proofs.Parts.{plus_part, minus_part, le_out, le_in, lt_out, lt_in, eq_out, eq_in, plus_part-neg, minus_part-neg, plus_part-mul, minus_part-mul, add_fact, part}

-- `omega zl` reads orders and equations of integers by their parts
pub ruleset zl = (arith, le_out, le_in, lt_out, lt_in, eq_out, eq_in)

pub ruleset parts = (plus_part-mul, minus_part-mul, plus_part-neg, minus_part-neg)

pub *ℤ-assoc : (a b c : ℤ) → (a *ℤ b) *ℤ c ≡ a *ℤ (b *ℤ c)
*ℤ-assoc a b c = eq_in (simp parts (omega arith))

pub *ℤ-+ℤ : (a b c : ℤ) → a *ℤ (b +ℤ c) ≡ a *ℤ b +ℤ a *ℤ c
*ℤ-+ℤ a b c = eq_in (omega (arith, add_fact (a *ℤ b) (a *ℤ c), plus_part-mul a (b +ℤ c), minus_part-mul a (b +ℤ c), plus_part-mul a b, minus_part-mul a b, plus_part-mul a c, minus_part-mul a c, ap (λ (t : ℕ). plus_part a * t) (add_fact b c), ap (λ (t : ℕ). minus_part a * t) (add_fact b c)))

pub *ℤ-neg : (a b : ℤ) → a *ℤ neg_ℤ b ≡ neg_ℤ (a *ℤ b)
*ℤ-neg a b = eq_in (simp parts (omega arith))

pub neg-*ℤ : (a b : ℤ) → neg_ℤ a *ℤ b ≡ neg_ℤ (a *ℤ b)
neg-*ℤ a b = eq_in (simp parts (omega arith))

pub ≤ℤ-trans : {a b c : ℤ} → a ≤ℤ b → b ≤ℤ c → a ≤ℤ c
≤ℤ-trans h k = omega zl

pub ≤ℤ-antisymm : {a b : ℤ} → a ≤ℤ b → b ≤ℤ a → a ≡ b
≤ℤ-antisymm h k = omega zl

pub +ℤ-mono : {a b c d : ℤ} → a ≤ℤ b → c ≤ℤ d → (a +ℤ c) ≤ℤ (b +ℤ d)
+ℤ-mono {a} {b} {c} {d} h k = omega (zl, add_fact a c, add_fact b d)

pub ≤ℤ-sub : {a b : ℤ} → a ≤ℤ b → pos 0 ≤ℤ (b -ℤ a)
≤ℤ-sub {a} {b} h = omega (zl, add_fact b (neg_ℤ a), plus_part-neg a, minus_part-neg a)

pub sub-≤ℤ : {a b : ℤ} → pos 0 ≤ℤ (b -ℤ a) → a ≤ℤ b
sub-≤ℤ {a} {b} h = omega (zl, add_fact b (neg_ℤ a), plus_part-neg a, minus_part-neg a)

nonneg_go : (a : ℤ) → pos 0 ≤ℤ a → minus_part a ≡ 0
nonneg_go (pos a) h = refl
nonneg_go (negsuc a) h = absurd h.le

pub nonneg : {a : ℤ} → pos 0 ≤ℤ a → minus_part a ≡ 0
nonneg {a} h = nonneg_go a h

pub nonneg_is : {a : ℤ} → pos 0 ≤ℤ a → a ≡ pos (plus_part a)
nonneg_is {a} h = omega (zl, nonneg h)

pub *ℤ-nonneg : {a b : ℤ} → pos 0 ≤ℤ a → pos 0 ≤ℤ b → pos 0 ≤ℤ (a *ℤ b)
*ℤ-nonneg {a} {b} h k = le_in (simp (parts, nonneg h, nonneg k) (omega arith))

pub +ℤ-*ℤ : (a b c : ℤ) → (b +ℤ c) *ℤ a ≡ b *ℤ a +ℤ c *ℤ a
+ℤ-*ℤ a b c = *ℤ_comm (b +ℤ c) a ∙ *ℤ-+ℤ a b c ∙ ap (λ (t : ℤ). t +ℤ a *ℤ c) (*ℤ_comm a b) ∙ ap (λ (t : ℤ). b *ℤ a +ℤ t) (*ℤ_comm a c)

nle : (a b : ℤ) → T (not (le_z a b)) → plus_part b + minus_part a ≤ plus_part a + minus_part b
nle (pos a) (pos b) t = omega (arith, nleb→lt a b t)
nle (pos a) (negsuc b) t = omega arith
nle (negsuc a) (pos b) t = absurd t
nle (negsuc a) (negsuc b) t = omega (arith, nleb→lt b a t)

total_go : (a b : ℤ) (c : Bool) → le_z a b ≡ c → (a ≤ℤ b) ⊎ (b ≤ℤ a)
total_go a b true e = inl (record { le = subst T (sym e) tt })
total_go a b false e = inr (le_in (nle a b (subst (λ (x : Bool). T (not x)) (sym e) tt)))

pub ≤ℤ-total : (a b : ℤ) → (a ≤ℤ b) ⊎ (b ≤ℤ a)
≤ℤ-total a b = total_go a b (le_z a b) refl

-- ---- the smaller of two
min_ℤ_parts : (a b : ℤ) → (plus_part (min_ℤ a b) ≡ min (plus_part a) (plus_part b)) × (minus_part (min_ℤ a b) ≡ max (minus_part a) (minus_part b))
unfolding min_ℤ
min_ℤ_parts a b = go (le_z a b) (λ t. le_out {a = a} {b = b} (record { le = t })) (λ t. nle a b t)
  where
    go : (c : Bool) → (T c → plus_part a + minus_part b ≤ plus_part b + minus_part a) → (T (not c) → plus_part b + minus_part a ≤ plus_part a + minus_part b) → (plus_part (cond c a b) ≡ min (plus_part a) (plus_part b)) × (minus_part (cond c a b) ≡ max (minus_part a) (minus_part b))
    go true h k = omega (arith, h tt, part a, part b)
    go false h k = omega (arith, k tt, part a, part b)

pub plus_part-min : (a b : ℤ) → plus_part (min_ℤ a b) ≡ min (plus_part a) (plus_part b)
plus_part-min a b = (min_ℤ_parts a b).0

pub minus_part-min : (a b : ℤ) → minus_part (min_ℤ a b) ≡ max (minus_part a) (minus_part b)
minus_part-min a b = (min_ℤ_parts a b).1

pub *ℤ-left-comm : (a b c : ℤ) → a *ℤ (b *ℤ c) ≡ b *ℤ (a *ℤ c)
*ℤ-left-comm a b c = eq_in (simp parts (omega arith))

pub min-le-l : (a b : ℤ) → min_ℤ a b ≤ℤ a
min-le-l a b = omega (zl, plus_part-min a b, minus_part-min a b)

pub min-le-r : (a b : ℤ) → min_ℤ a b ≤ℤ b
min-le-r a b = omega (zl, plus_part-min a b, minus_part-min a b)

pub le-min : {a b c : ℤ} → c ≤ℤ a → c ≤ℤ b → c ≤ℤ min_ℤ a b
le-min {a} {b} {c} h k = omega (zl, plus_part-min a b, minus_part-min a b, part a, part b, part c)

-- ---- a difference of natural numbers
pub pos-sub : (m n : ℕ) → n ≤ m → pos m -ℤ pos n ≡ pos (m - n)
pos-sub m n h = eq_in (omega (arith, add_fact (pos m) (neg_ℤ (pos n)), plus_part-neg (pos n), minus_part-neg (pos n)))

-- ---- tests that say the same
test_same : (s t : Bool) → (T s → T t) → (T t → T s) → s ≡ t
test_same true true h k = refl
test_same true false h k = absurd (h tt)
test_same false true h k = absurd (k tt)
test_same false false h k = refl

pub le_z_same : (a b c d : ℤ) → (a ≤ℤ b → c ≤ℤ d) → (c ≤ℤ d → a ≤ℤ b) → le_z a b ≡ le_z c d
le_z_same a b c d h k = test_same (le_z a b) (le_z c d) (λ t. (h (record { le = t })).le) (λ t. (k (record { le = t })).le)

-- a difference against 0
pub le_z_sub : (a b : ℤ) → le_z (pos 0) (b -ℤ a) ≡ le_z a b
le_z_sub a b = le_z_same (pos 0) (b -ℤ a) a b (λ h. sub-≤ℤ h) (λ h. ≤ℤ-sub h)

pub sub_le_z : (a b : ℤ) → le_z (b -ℤ a) (pos 0) ≡ le_z b a
sub_le_z a b =
    le_z_same (b -ℤ a) (pos 0) b a
    (λ h. omega (zl, add_fact b (neg_ℤ a), plus_part-neg a, minus_part-neg a))
    (λ h. omega (zl, add_fact b (neg_ℤ a), plus_part-neg a, minus_part-neg a))

-- ---- of two natural numbers
pub min-pos : (a b : ℕ) → min_ℤ (pos a) (pos b) ≡ pos (min a b)
min-pos a b = eq_in (omega (arith, plus_part-min (pos a) (pos b), minus_part-min (pos a) (pos b)))

pub max-pos : (a b : ℕ) → max_ℤ (pos a) (pos b) ≡ pos (max a b)
unfolding max_ℤ
max-pos a b = go (leb a b) (λ t. leb→le a b t) (λ t. nleb→lt a b t)
  where
    go : (c : Bool) → (T c → a ≤ b) → (T (not c) → b < a) → cond c (pos b) (pos a) ≡ pos (max a b)
    go true h k = let l : b ≡ max a b = omega (arith, h tt) in ap pos l
    go false h k = let l : a ≡ max a b = omega (arith, k tt) in ap pos l
