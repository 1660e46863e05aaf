-- The first element that fails a test, by its place, in words; and the tests of 13 and 14: a quantity above its bound, a row
-- that is broken.
use mathlib.Core.Path.{◌≡◌, refl, sym, ◌∙◌, ap}
use mathlib.Core.Bool.{Bool, true, false}
use mathlib.Core.List.{List, [], ◌∷◌, ◌++◌}
use mathlib.Core.Logic.{◌↔◌}
use Prim.Native.Nat.{ℕ, suc, ◌+◌}
use native.Mathlib.Nat.{add-zero}
use native.Mathlib.Omega.{arith}
use lib.Dec.{T}
use lib.ListN.{length}
use borrow.Author.Tests.{leb-true, leb-false, le-leb, lt-leb}
use Rattle.arith.specs.Sums.{Each}
use Rattle.market.specs.declared.Refusal.{Refusal}
use Rattle.market.specs.Case.{Case}
use Rattle.market.specs.UpperBounds.{upper_bound}
use Rattle.market.specs.Rows.{sense, slack}
use Rattle.market.specs.Certificate.{Certificate}
use Rattle.market.specs.Refusals.{Finding, holds, first_failing}
use Rattle.market.specs.Outcome.{within_bound, row_met}
use Rattle.market.specs.RefusedExactly.{FirstAt, AboveItsBound, WithinItsBound, IsMet, IsBroken}
use Rattle.market.proofs.Grounds.{not_clear, meets_Meets, Meets_meets}
use Rattle.market.proofs.FirstFailing.{passes, fails}

no_number : {A : Type 0} → ◌≡◌ {A = ℕ} 0 1 → A
no_number z = absurd (omega arith)

-- ---- a test, and what it says of an element that passes and of one that fails
pub record Tests {A : Type 0} (f : A → Bool) (Fails Passes : A → Type 0) : Type 0 where
  pub passing : (a : A) → (f a ≡ true) ↔ Passes a
  pub failing : (a : A) → (f a ≡ false) ↔ Fails a

pub bounds_tested : (c : Case) (k : Certificate) → Tests (within_bound c k) (AboveItsBound c k.amount) (WithinItsBound c k.amount)
bounds_tested c k =
    record {
      passing = λ a. (leb-true (k.amount a) (upper_bound c a), le-leb (k.amount a) (upper_bound c a));
      failing = λ a. (leb-false (k.amount a) (upper_bound c a), lt-leb (k.amount a) (upper_bound c a));
    }

if_passing : {Q : Type 0} (t : Bool) → (T t → Q) → (Q → T t) → (t ≡ true) ↔ Q
if_passing true to from = (λ e. to tt, λ h. refl)
if_passing false to from = (λ e. no_number cc, λ h. absurd (from h))

if_failing : {Q : Type 0} (t : Bool) → (T t → Q) → (Q → T t) → (t ≡ false) ↔ (¬ Q)
if_failing true to from = (λ e. no_number cc, λ n. absurd (n (to tt)))
if_failing false to from = (λ e. from, λ n. refl)

pub rows_tested : (c : Case) (k : Certificate) → Tests (row_met c k) (IsBroken c k.amount) (IsMet c k.amount)
rows_tested c k =
    record {
      passing = λ r. let v = slack c k.amount r in if_passing (row_met c k r) (meets_Meets (sense r) v) (Meets_meets (sense r) v);
      failing = λ r. let v = slack c k.amount r in if_failing (row_met c k r) (meets_Meets (sense r) v) (Meets_meets (sense r) v);
    }

-- ---- the first that fails a test, by its place
module _ {A : Type 0} {f : A → Bool} {Fails Passes : A → Type 0} (t : Tests f Fails Passes) (name : ℕ → Refusal) (same : (m n : ℕ) → holds (name m) ≡ holds (name n) → m ≡ n) where
  first_at : (n p : ℕ) (xs : List A) → first_failing f name n xs ≡ holds (name p) → FirstAt Fails Passes n xs p
  unfolding first_failing
  first_at n p [] h = not_clear (name p) (sym h)
  first_at n p (x ∷ xs) h = go (first_at (suc n) p xs) (f x) refl h
    where
      go : (first_failing f name (suc n) xs ≡ holds (name p) → FirstAt Fails Passes (suc n) xs p) → (s : Bool) → f x ≡ s →
          ◌≡◌ {A = Finding} (elim s [ true ↦ first_failing f name (suc n) xs | false ↦ holds (name n) ]) (holds (name p)) → FirstAt Fails Passes n (x ∷ xs) p
      go rest true e k =
          let r = rest k in
          record { before = x ∷ r.before; this = r.this; after = r.after; are = ap (λ (l : List A). x ∷ l) r.are; place = omega (arith, r.place); fails = r.fails; pass = ((t.passing x).0 e, r.pass) }
      go rest false e k = record { before = []; this = x; after = xs; are = refl; place = omega (arith, same n p k); fails = (t.failing x).0 e; pass = tt }

  at_first : (n p : ℕ) (xs : List A) → FirstAt Fails Passes n xs p → first_failing f name n xs ≡ holds (name p)
  at_first n p xs h = rw (h.are, h.place) (go n h.before h.pass)
    where
      go : (m : ℕ) (before : List A) → Each Passes before → first_failing f name m (before ++ (h.this ∷ h.after)) ≡ holds (name (m + length before))
      go m [] k = rw add-zero (fails f name m h.this h.after ((t.failing h.this).1 h.fails))
      go m (x ∷ xs) k = passes f name m x (xs ++ (h.this ∷ h.after)) ((t.passing x).1 k.0) ∙ (go (suc m) xs k.1 ∙ ap (λ (n : ℕ). holds (name n)) (next m (length xs)))
        where
          next : (a b : ℕ) → suc a + b ≡ a + suc b
          next a b = omega arith

  pub first_failing_at : (n p : ℕ) (xs : List A) → (first_failing f name n xs ≡ holds (name p)) ↔ FirstAt Fails Passes n xs p
  first_failing_at n p xs = (first_at n p xs, at_first n p xs)
