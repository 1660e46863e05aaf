-- The first element that fails a test, in lists made piece by piece: what a loop that stops at the first failure finds.
use mathlib.Core.Path.{◌≡◌, refl, ◌∙◌, ap}
use mathlib.Core.Bool.{Bool, true, false}
use mathlib.Core.List.{List, [], ◌∷◌, ◌++◌, append-nil}
use Prim.Native.Nat.{ℕ, zero, suc, ◌+◌, ◌*◌, ◌≤◌, ◌<◌}
use native.Mathlib.Nat.{add-zero}
use native.Mathlib.Decide.{dec_lt}
use native.Mathlib.Omega.{arith}
use lib.ListN.{length}
use Rattle.arith.specs.Sums.{upto, across}
use Rattle.arith.proofs.Lists.{across-append, length-across, length-upto}
use Rattle.market.specs.declared.Refusal.{Refusal}
use Rattle.market.specs.Refusals.{Finding, clear, holds, first_failing}

-- a finding, and what is found next where there is nothing
abbrev pub or_else : Finding → Finding → Finding
or_else clear g = g
or_else (holds r) g = holds r

module _ {A : Type 0} (f : A → Bool) (r : ℕ → Refusal) where
  pub first_append : (n : ℕ) (xs ys : List A) → first_failing f r n (xs ++ ys) ≡ or_else (first_failing f r n xs) (first_failing f r (n + length xs) ys)
  unfolding first_failing
  first_append n [] ys = rw add-zero
  first_append n (x ∷ xs) ys = go (f x) (first_append (suc n) xs ys ∙ rw (place (length xs)))
    where
      place : (k : ℕ) → suc n + k ≡ n + suc k
      place k = omega arith

      go : (t : Bool) → first_failing f r (suc n) (xs ++ ys) ≡ or_else (first_failing f r (suc n) xs) (first_failing f r (n + suc (length xs)) ys) →
          ◌≡◌ {A = Finding} (elim t [ true ↦ first_failing f r (suc n) (xs ++ ys) | false ↦ holds (r n) ]) (or_else (elim t [ true ↦ first_failing f r (suc n) xs | false ↦ holds (r n) ]) (first_failing f r (n + suc (length xs)) ys))
      go true e = e
      go false e = refl

  pub passes : (n : ℕ) (x : A) (xs : List A) → f x ≡ true → first_failing f r n (x ∷ xs) ≡ first_failing f r (suc n) xs
  unfolding first_failing
  passes n x xs e = rw (e, first_failing)

  pub fails : (n : ℕ) (x : A) (xs : List A) → f x ≡ false → first_failing f r n (x ∷ xs) ≡ holds (r n)
  unfolding first_failing
  fails n x xs e = rw (e, first_failing)

  pub first_none : (n : ℕ) → first_failing f r n [] ≡ clear
  unfolding first_failing
  first_none n = refl

  -- ---- m elements for each number below i, as a loop goes through them
  module _ (g : ℕ → List A) (m : ℕ) (long : (i : ℕ) → length (g i) ≡ m) where
    pub first_blocks : (n i : ℕ) → first_failing f r n (across g (upto (suc i))) ≡ or_else (first_failing f r n (across g (upto i))) (first_failing f r (n + i * m) (g i))
    unfolding upto across
    first_blocks n i =
        rw (across-append g (upto i) (i ∷ []), append-nil (g i))
        (first_append n (across g (upto i)) (g i) ∙ rw (length-across g m long (upto i), length-upto i))

    -- what is found before k blocks is found before all of them
    pub first_kept : (n i k : ℕ) (s : Refusal) → i ≤ k → first_failing f r n (across g (upto i)) ≡ holds s → first_failing f r n (across g (upto k)) ≡ holds s
    first_kept n i zero s l e = let z : i ≡ 0 = omega arith in rw z at e
    first_kept n i (suc k) s l e = go (first_kept n i k s) (dec_lt k i)
      where
        go : (i ≤ k → first_failing f r n (across g (upto i)) ≡ holds s → first_failing f r n (across g (upto k)) ≡ holds s) → Dec (k < i) → first_failing f r n (across g (upto (suc k))) ≡ holds s
        go below (yes h) = let z : i ≡ suc k = omega arith in rw z at e
        go below (no h) = first_blocks n k ∙ ap (λ (t : Finding). or_else t (first_failing f r (n + k * m) (g k))) (below (omega arith) e)
