-- Linear orders and equations of integers, and ring identities, in one call:
--     law a b c = simp sorted (simp count (omega arith))
-- `sorted` brings everything to one side, multiplies out and sorts the monomials under a predicate that does not
-- compute; `count` takes that predicate to an inequality of natural numbers. Hypotheses are left unbound on the clause's
-- left, so that they stand in the goal. At most 32 monomials: prove over variables, then apply to the sums.
use mathlib.Core.Path.{◌≡◌, refl}
use mathlib.Core.Logic.{◌↔◌}
use Prim.Native.Nat.{ℕ, suc, ◌+◌, ◌*◌, ◌≤◌}
use native.Mathlib.Omega.{arith}
use lib.IntN.{ℤ, pos, negsuc, neg_ℤ, ◌+ℤ◌, ◌*ℤ◌, +ℤ_assoc, neg_ℤ-+ℤ, neg_ℤ-neg_ℤ, *ℤ_comm}
use lib.Signed.{◌≤ℤ◌, ◌<ℤ◌}
use Rattle.arith.proofs.Parts.{plus_part, minus_part, eq_in, plus_part-neg, minus_part-neg, plus_part-mul, minus_part-mul, add_fact}
use Rattle.arith.proofs.Order.{zl, parts, *ℤ-+ℤ, +ℤ-*ℤ, *ℤ-neg, neg-*ℤ, *ℤ-assoc, *ℤ-left-comm}

-- zero, shut, so that a sum with it does not compute
pub nil : ℤ
nil = pos 0

-- 0 ≤ z + p - n, and 0 ≡ z + p - n
pub G : ℤ → ℕ → ℕ → Type 0
G z p n = minus_part z + n ≤ plus_part z + p

pub Eq : ℤ → ℕ → ℕ → Type 0
Eq z p n = minus_part z + n ≡ plus_part z + p

pub le-G : {a b : ℤ} → (a ≤ℤ b) ↔ G (b +ℤ (neg_ℤ a +ℤ nil)) 0 0
unfolding G nil
le-G {a} {b} = (
  (λ (h : a ≤ℤ b). omega (zl, add_fact b (neg_ℤ a +ℤ pos 0), add_fact (neg_ℤ a) (pos 0), plus_part-neg a, minus_part-neg a)),
  (λ (h : minus_part (b +ℤ (neg_ℤ a +ℤ pos 0)) + 0 ≤ plus_part (b +ℤ (neg_ℤ a +ℤ pos 0)) + 0). omega (zl, add_fact b (neg_ℤ a +ℤ pos 0), add_fact (neg_ℤ a) (pos 0), plus_part-neg a, minus_part-neg a)),
)

pub lt-G : {a b : ℤ} → (a <ℤ b) ↔ G (b +ℤ (neg_ℤ a +ℤ nil)) 0 1
unfolding G nil
lt-G {a} {b} = (
  (λ (h : a <ℤ b). omega (zl, add_fact b (neg_ℤ a +ℤ pos 0), add_fact (neg_ℤ a) (pos 0), plus_part-neg a, minus_part-neg a)),
  (λ (h : minus_part (b +ℤ (neg_ℤ a +ℤ pos 0)) + 1 ≤ plus_part (b +ℤ (neg_ℤ a +ℤ pos 0)) + 0). omega (zl, add_fact b (neg_ℤ a +ℤ pos 0), add_fact (neg_ℤ a) (pos 0), plus_part-neg a, minus_part-neg a)),
)

pub G-add : (a z : ℤ) (p n : ℕ) → G (a +ℤ z) p n ↔ G z (plus_part a + p) (minus_part a + n)
unfolding G
G-add a z p n = omega (arith, add_fact a z)

pub G-nil : (p n : ℕ) → G nil p n ↔ n ≤ p
unfolding G nil
G-nil p n = omega arith

pub eq-E : {a b : ℤ} → (a ≡ b) ↔ Eq (b +ℤ (neg_ℤ a +ℤ nil)) 0 0
unfolding Eq nil
eq-E {a} {b} = (
  (λ (h : a ≡ b). omega (zl, add_fact b (neg_ℤ a +ℤ pos 0), add_fact (neg_ℤ a) (pos 0), plus_part-neg a, minus_part-neg a)),
  (λ (h : minus_part (b +ℤ (neg_ℤ a +ℤ pos 0)) + 0 ≡ plus_part (b +ℤ (neg_ℤ a +ℤ pos 0)) + 0). omega (zl, add_fact b (neg_ℤ a +ℤ pos 0), add_fact (neg_ℤ a) (pos 0), plus_part-neg a, minus_part-neg a)),
)

pub E-add : (a z : ℤ) (p n : ℕ) → Eq (a +ℤ z) p n ↔ Eq z (plus_part a + p) (minus_part a + n)
unfolding Eq
E-add a z p n = omega (arith, add_fact a z)

pub E-nil : (p n : ℕ) → Eq nil p n ↔ (n ≡ p)
unfolding Eq nil
E-nil p n = omega arith

-- first out to sums of products, then to the parts
pub ruleset flat = (le-G, lt-G, eq-E, *ℤ-+ℤ, +ℤ-*ℤ, *ℤ-neg, neg-*ℤ, neg_ℤ-+ℤ, neg_ℤ-neg_ℤ, +ℤ_assoc)

-- a ring identity of a higher degree: the monomials are sorted, and each is an atom
pub scale : ℕ → ℤ → ℤ
scale k a = pos k *ℤ a

pub scale-plus_part : (k : ℕ) (a : ℤ) → plus_part (scale k a) ≡ k * plus_part a
unfolding scale
scale-plus_part k a = omega (arith, plus_part-mul (pos k) a)

pub scale-minus_part : (k : ℕ) (a : ℤ) → minus_part (scale k a) ≡ k * minus_part a
unfolding scale
scale-minus_part k a = omega (arith, minus_part-mul (pos k) a)

ruleset sc = (scale-plus_part, scale-minus_part, parts)

pub scale-l : (k : ℕ) (a : ℤ) → pos k *ℤ a ≡ scale k a
unfolding scale
scale-l k a = refl

pub scale-r : (k : ℕ) (a : ℤ) → a *ℤ pos k ≡ scale k a
unfolding scale
scale-r k a = *ℤ_comm a (pos k)

pub scale-ln : (k : ℕ) (a : ℤ) → negsuc k *ℤ a ≡ neg_ℤ (scale (suc k) a)
scale-ln k a = eq_in (simp sc (omega arith))

pub scale-rn : (k : ℕ) (a : ℤ) → a *ℤ negsuc k ≡ neg_ℤ (scale (suc k) a)
scale-rn k a = eq_in (simp sc (omega arith))

pub scale-*l : (k : ℕ) (a b : ℤ) → scale k a *ℤ b ≡ scale k (a *ℤ b)
scale-*l k a b = eq_in (simp sc (omega arith))

pub scale-*r : (k : ℕ) (a b : ℤ) → a *ℤ scale k b ≡ scale k (a *ℤ b)
scale-*r k a b = eq_in (simp sc (omega arith))

pub scale-neg : (k : ℕ) (a : ℤ) → scale k (neg_ℤ a) ≡ neg_ℤ (scale k a)
scale-neg k a = eq_in (simp sc (omega arith))

pub scale-add : (k : ℕ) (a b : ℤ) → scale k (a +ℤ b) ≡ scale k a +ℤ scale k b
unfolding scale
scale-add k a b = *ℤ-+ℤ (pos k) a b

pub scale-scale : (k l : ℕ) (a : ℤ) → scale k (scale l a) ≡ scale (k * l) a
scale-scale k l a = eq_in (simp sc (omega arith))

pub ruleset scales = (scale-l, scale-r, scale-ln, scale-rn, scale-*l, scale-*r, scale-neg, scale-add, scale-scale)

pub ruleset sorted = (flat, scales, *ℤ-assoc, *ℤ_comm, *ℤ-left-comm)

pub ruleset count = (G-add, G-nil, E-add, E-nil, plus_part-neg, minus_part-neg, scale-plus_part, scale-minus_part)
