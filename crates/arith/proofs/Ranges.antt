-- What `(0..n).all(f)` answers, by what f answers at each number below n.
use mathlib.Core.Path.{◌≡◌, refl, sym, subst, ap, ◌∙◌}
use mathlib.Core.Bool.{Bool, true, false, ◌&&◌}
use mathlib.Core.List.{List, [], ◌∷◌, ◌++◌, map-id}
use Prim.Native.Nat.{ℕ, zero, suc, ◌+◌, ◌<◌}
use native.Mathlib.Nat.{zero-add}
use native.Mathlib.Numerals.{add-one}
use native.Mathlib.Omega.{arith}
use denote.Param.Members.{Called, Mut}
use lib.ListN.{length, get_or}
use Rattle.std.specs.declared.ops.Range.{Range}
use Rattle.std.proofs.iter.Yields.{nat_range_steps}
use Rattle.std.specs.Bool.{MatchBool}
use Rattle.std.specs.Iterator.{ChecksAll, FoldsItems}
use Rattle.std.specs.List.{range_with_len, AllWithin, HoldsAt}
use Rattle.std.proofs.lemmas.Iterator.{YieldsList-from_range, cases_from_all}
use Rattle.std.proofs.lemmas.Fn.{fold_over}
use Rattle.std.proofs.lemmas.List.FromFn.{map-range_with_len_more, length-range_with_len, get_or-range_with_len}
use Rattle.arith.specs.Sums.{upto, all}
use Rattle.arith.proofs.AllTests.{and_true, all_append, all_none, all_more, all_stop}

pub all_below : (test : ℕ → Bool) (n : ℕ) → ((k : ℕ) → k < n → test k ≡ true) → all test (upto n) ≡ true
all_below test zero h = all_none test
all_below test (suc n) h = rw (← (add-one n)) (all_more test n (all_below test n (λ k l. h k (omega arith))) (h n (omega arith)))

range-is : (n : ℕ) → range_with_len 0 n ≡ upto n
unfolding upto
range-is zero = refl
range-is (suc n) =
    let e : range_with_len 0 (n + 1) ≡ range_with_len 0 n ++ (n ∷ []) = sym (map-id (range_with_len 0 (n + 1))) ∙ map-range_with_len_more (λ x. x) 0 n n (omega arith) ∙ rw (map-id (range_with_len 0 n)) in
    rw add-one at e ∙ ap (λ ks. ks ++ (n ∷ [])) (range-is n)

module _ {F : Type 0} {g : Mut F (ℕ × Unit {0}) Bool} {s u : Range ℕ} {f : F} {r : Bool} where
  -- by two statements, of which f decides at each number
  pub all_cases : (n : ℕ) (Yes No : ℕ → Type 0) → s ≡ record { start = 0; end = n } → ChecksAll nat_range_steps g s f r u
      → ((k : ℕ) (q : F) → Called g f (k, tt) true q → (q ≡ f) × (k < n → Yes k)) → ((k : ℕ) (q : F) → Called g f (k, tt) false q → k < n → No k)
      → MatchBool r ((k : ℕ) → k < n → Yes k) ((k : ℕ) × (k < n) × No k)
  all_cases n Yes No e ran yes' no' = go r (cases_from_all u f r (λ k. k < n → Yes k) (λ k. k < n → No k) ran (YieldsList-from_range 0 n n e (omega arith)) yes' no')
    where
      numbers : List ℕ
      numbers = range_with_len 0 n

      at : (k : ℕ) → k < n → get_or numbers k 0 ≡ k
      at k l = get_or-range_with_len 0 n k 0 l ∙ zero-add k

      go : (r' : Bool) → MatchBool r' (AllWithin (λ k. k < n → Yes k) numbers 0 (length numbers)) ((k : ℕ) × (k < length numbers) × HoldsAt (λ k. k < n → No k) numbers k)
          → MatchBool r' ((k : ℕ) → k < n → Yes k) ((k : ℕ) × (k < n) × No k)
      go true h = λ k l. let e : get_or numbers k 0 ≡ k = at k l in subst Yes e (h k 0 (omega arith) (omega (arith, length-range_with_len 0 n)) (omega arith))
      go false h =
          let l : h.0 < n = omega (arith, h.1, length-range_with_len 0 n) in
          let e : get_or numbers h.0 0 ≡ h.0 = at h.0 l in
          (h.0, l, subst No e (h.2 0 (omega arith)))

  -- by a statement that holds where f answers true
  pub all_true : (n : ℕ) (P : ℕ → Type 0) → s ≡ record { start = 0; end = n } → ChecksAll nat_range_steps g s f r u
      → ((k : ℕ) (q : F) → Called g f (k, tt) true q → (q ≡ f) × (k < n → P k)) → r ≡ true → (k : ℕ) → k < n → P k
  all_true n P e ran yes' t = let R : Bool → Type 0 = λ r'. MatchBool r' ((k : ℕ) → k < n → P k) ((k : ℕ) × (k < n) × Unit {0}) in subst R t (all_cases n P (λ k. Unit {0}) e ran yes' (λ k q c l. tt))

  -- by a test
  pub all_upto : (test : ℕ → Bool) (n : ℕ) → s ≡ record { start = 0; end = n } → ChecksAll nat_range_steps g s f r u
      → ((k : ℕ) (b : Bool) (q : F) → Called g f (k, tt) b q → (q ≡ f) × (k < n → b ≡ test k)) → r ≡ all test (upto n)
  all_upto test n e ran answers = by r (all_cases n (λ k. test k ≡ true) (λ k. test k ≡ false) e ran (λ k q c. let a = answers k true q c in (a.0, λ l. sym (a.1 l))) (λ k q c l. sym ((answers k false q c).1 l)))
    where
      by : (r' : Bool) → MatchBool r' ((k : ℕ) → k < n → test k ≡ true) ((k : ℕ) × (k < n) × (test k ≡ false)) → r' ≡ all test (upto n)
      by true h = sym (all_below test n h)
      by false h = sym (all_stop test n h.0 h.1 h.2)

-- What `(0..n).fold(a, f)` answers: by what holds of the numbers so far and the answer so far, and for a test of each
module _ {F C : Type 0} {g : Mut F (C × (ℕ × Unit {0})) C} {s : Range ℕ} {f : F} {a r : C} where
  pub fold_upto : (n : ℕ) (J : List ℕ → C → Type 0) → s ≡ record { start = 0; end = n } → FoldsItems nat_range_steps g s f a r
      → J [] a → ((ks : List ℕ) (c : C) (k : ℕ) (d : C) (q : F) → J ks c → Called g f (c, (k, tt)) d q → J (ks ++ (k ∷ [])) d × (q ≡ f)) → J (upto n) r
  fold_upto n J e ran none more = subst (λ ks. J ks r) (range-is n) (fold_over nat_range_steps (λ x. x) g J f more s (range_with_len 0 n) a r (YieldsList-from_range 0 n n e (omega arith)).runs none ran)

module _ {F : Type 0} {g : Mut F (Bool × (ℕ × Unit {0})) Bool} {s : Range ℕ} {f : F} {r : Bool} where
  pub all_folded : (test : ℕ → Bool) (n : ℕ) → s ≡ record { start = 0; end = n } → FoldsItems nat_range_steps g s f true r
      → ((c : Bool) (k : ℕ) (d : Bool) (q : F) → Called g f (c, (k, tt)) d q → (d ≡ (c && test k)) × (q ≡ f)) → r ≡ all test (upto n)
  unfolding all
  all_folded test n e ran answers = fold_upto n (λ ks c. c ≡ all test ks) e ran refl (λ ks c k d q j h. let a = answers c k d q h in (a.0 ∙ rw (j, all_append test ks (k ∷ []), and_true (test k)), a.1))
