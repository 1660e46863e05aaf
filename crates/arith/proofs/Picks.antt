-- A sum over the numbers below n in which a test leaves one term.
use mathlib.Core.Path.{◌≡◌, refl, ◌∙◌}
use mathlib.Core.Bool.{Bool, true, false, cond}
use mathlib.Core.List.{[], ◌∷◌}
use Prim.Native.Nat.{ℕ, zero, suc, ◌<◌, ◌≤◌}
use native.Mathlib.Omega.{arith}
use lib.IntN.{ℤ, pos, ◌+ℤ◌, +ℤ_idl, +ℤ_idr}
use Rattle.arith.specs.Sums.{sum_of, upto}
use Rattle.arith.proofs.Sums.{sum-append, sum_one}

module _ (t : ℕ → Bool) (f : ℕ → ℤ) (i : ℕ) (here : t i ≡ true) (only : (j : ℕ) → t j ≡ true → j ≡ i) where
  term : ℕ → ℤ
  term j = cond (t j) (f j) (pos 0)

  elsewhere : (j : ℕ) (b : Bool) → t j ≡ b → ¬ (j ≡ i) → term j ≡ pos 0
  unfolding term
  elsewhere j true e h = absurd (h (only j e))
  elsewhere j false e h = rw e

  not_here : (j : ℕ) → t j ≡ false → ¬ (j ≡ i)
  not_here j e k = let z : ◌≡◌ {A = ℕ} 0 1 = cc in omega arith

  before : (n : ℕ) → n ≤ i → sum_of term (upto n) ≡ pos 0
  unfolding upto sum_of
  before zero h = refl
  before (suc n) h =
      sum-append term (upto n) (n ∷ [])
      ∙ rw (before n (omega arith), sum_one term n) (+ℤ_idl (term n) ∙ elsewhere n (t n) refl (λ e. omega arith))

  picked : term i ≡ f i
  unfolding term
  picked = rw here

  after : (n : ℕ) → i < n → sum_of term (upto n) ≡ f i
  unfolding upto
  after zero h = absurd (omega arith)
  after (suc n) h = sum-append term (upto n) (n ∷ []) ∙ rw (sum_one term n) (go (after n) (t n) refl)
    where
      go : (i < n → sum_of term (upto n) ≡ f i) → (b : Bool) → t n ≡ b → sum_of term (upto n) +ℤ term n ≡ f i
      go rest true e =
          let k : n ≡ i = only n e in
          rw (before n (omega arith), k) (+ℤ_idl (term i) ∙ picked)
      go rest false e =
          let ne : ¬ (n ≡ i) = not_here n e in
          rw (rest (omega arith), elsewhere n false e ne) (+ℤ_idr (f i))

  pub sum_pick : (n : ℕ) → i < n → sum_of (λ j. cond (t j) (f j) (pos 0)) (upto n) ≡ f i
  unfolding term
  sum_pick n h = after n h
