-- The elements of a list at which a test passes: a list that turns on a feature, by what it has of all that any may have.
use mathlib.Core.Bool.{Bool, true, false, cond}
use mathlib.Core.Path.{◌≡◌, refl, ◌∙◌}
use mathlib.Core.List.{List, [], ◌∷◌}
use Prim.Native.Nat.{ℕ, ◌≤◌}
use native.Mathlib.Omega.{arith}
use lib.Dec.{T}
use lib.IntN.{ℤ, pos, +ℤ_idr}
use Rattle.arith.specs.Sums.{sum_of, total_of, Each, when, kept}
use Rattle.arith.proofs.Lists.{each_join, each_split}
use Rattle.arith.proofs.NaturalSums.{total-append}
use Rattle.arith.proofs.Sums.{sum-append}

module _ {A : Type 0} where
  -- ---- all of a list, or nothing
  pub each-when : (P : A → Type 0) (t : Bool) (xs : List A) → (T t → Each P xs) → Each P (when t xs)
  each-when P true xs h = h tt
  each-when P false xs h = tt

  pub of_when : (P : A → Type 0) (t : Bool) (xs : List A) → Each P (when t xs) → T t → Each P xs
  of_when P true xs h m = h
  of_when P false xs h m = absurd m

  -- ---- those that the test keeps
  module _ (t : A → Bool) where
    pub each-kept : (P : A → Type 0) (xs : List A) → Each (λ x. T (t x) → P x) xs → Each P (kept t xs)
    unfolding kept
    each-kept P [] h = tt
    each-kept P (x ∷ xs) h = each_join P (when (t x) (x ∷ [])) (kept t xs) (each-when P (t x) (x ∷ []) (λ m. (h.0 m, tt))) (each-kept P xs h.1)

    pub of_kept : (P : A → Type 0) (xs : List A) → Each P (kept t xs) → Each (λ x. T (t x) → P x) xs
    unfolding kept
    of_kept P [] h = tt
    of_kept P (x ∷ xs) h =
        let r = each_split P (when (t x) (x ∷ [])) (kept t xs) h in
        ((λ m. (of_when P (t x) (x ∷ []) r.0 m).0), of_kept P xs r.1)

    -- a sum over them is one over all, in which the others count 0
    pub sum-kept : (f : A → ℤ) (xs : List A) → sum_of f (kept t xs) ≡ sum_of (λ x. cond (t x) (f x) (pos 0)) xs
    unfolding kept sum_of
    sum-kept f [] = refl
    sum-kept f (x ∷ xs) = sum-append f (when (t x) (x ∷ [])) (kept t xs) ∙ rw (one (t x), sum-kept f xs) refl
      where
        one : (s : Bool) → sum_of f (when s (x ∷ [])) ≡ cond s (f x) (pos 0)
        one true = +ℤ_idr (f x)
        one false = refl

    -- a total over them is no larger than one over all
    pub total_kept : (f : A → ℕ) (xs : List A) → total_of f (kept t xs) ≤ total_of f xs
    unfolding kept total_of
    total_kept f [] = omega arith
    total_kept f (x ∷ xs) = omega (arith, total-append f (when (t x) (x ∷ [])) (kept t xs), one (t x), total_kept f xs)
      where
        one : (s : Bool) → total_of f (when s (x ∷ [])) ≤ f x
        one true = omega arith
        one false = omega arith
