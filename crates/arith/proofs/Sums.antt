-- Laws of finite sums of integers.
use mathlib.Core.Path.{◌≡◌, refl, sym, ◌∙◌, ap, fun_ext}
use mathlib.Core.Bool.{Bool, true, false, cond}
use mathlib.Core.List.{List, [], ◌∷◌, ◌++◌, map}
use Prim.Native.Nat.{ℕ, ◌+◌}
use native.Mathlib.Omega.{arith}
use native.Mathlib.Numerals.{add-one}
use lib.IntN.{ℤ, pos, neg_ℤ, ◌+ℤ◌, ◌-ℤ◌, ◌*ℤ◌, +ℤ_idl, +ℤ_idr, *ℤ-zero, zero-*ℤ}
use lib.Signed.{◌≤ℤ◌, ≤ℤ_refl}
use Rattle.arith.specs.Sums.{sum_of, Each, upto, across}
use Rattle.arith.proofs.Order.{+ℤ-mono}
use Rattle.arith.proofs.Linear.{sorted, count}

-- two numbers that are not negative, with the sum 0
both_zero : (a b : ℤ) → pos 0 ≤ℤ a → pos 0 ≤ℤ b → a +ℤ b ≡ pos 0 → (a ≡ pos 0) × (b ≡ pos 0)
both_zero a b = simp sorted (simp count (omega arith))

module _ {A : Type 0} where
  pub sum-add : (f g : A → ℤ) (xs : List A) → sum_of (λ x. f x +ℤ g x) xs ≡ sum_of f xs +ℤ sum_of g xs
  unfolding sum_of
  sum-add f g [] = refl
  sum-add f g (x ∷ xs) = rw (sum-add f g xs) (simp sorted (simp count (omega arith)))

  pub sum-neg : (f : A → ℤ) (xs : List A) → sum_of (λ x. neg_ℤ (f x)) xs ≡ neg_ℤ (sum_of f xs)
  unfolding sum_of
  sum-neg f [] = refl
  sum-neg f (x ∷ xs) = rw (sum-neg f xs) (simp sorted (simp count (omega arith)))

  pub sum-sub : (f g : A → ℤ) (xs : List A) → sum_of (λ x. f x -ℤ g x) xs ≡ sum_of f xs -ℤ sum_of g xs
  sum-sub f g xs = sum-add f (λ x. neg_ℤ (g x)) xs ∙ ap (λ (t : ℤ). sum_of f xs +ℤ t) (sum-neg g xs)

  pub sum-scale : (k : ℤ) (f : A → ℤ) (xs : List A) → k *ℤ sum_of f xs ≡ sum_of (λ x. k *ℤ f x) xs
  unfolding sum_of
  sum-scale k f [] = simp sorted (simp count (omega arith))
  sum-scale k f (x ∷ xs) = rw (← (sum-scale k f xs)) (simp sorted (simp count (omega arith)))

  pub sum-zero : (xs : List A) → sum_of (λ x. pos 0) xs ≡ pos 0
  unfolding sum_of
  sum-zero [] = refl
  sum-zero (x ∷ xs) = rw (sum-zero xs)

  pub sum-ext : (f g : A → ℤ) → ((x : A) → f x ≡ g x) → (xs : List A) → sum_of f xs ≡ sum_of g xs
  sum-ext f g e xs = ap (λ (h : A → ℤ). sum_of h xs) (fun_ext e)

  -- where the terms of the elements that are there are equal
  pub sum-each-ext : (f g : A → ℤ) (xs : List A) → Each (λ x. f x ≡ g x) xs → sum_of f xs ≡ sum_of g xs
  unfolding sum_of
  sum-each-ext f g [] h = refl
  sum-each-ext f g (x ∷ xs) h = rw (h.0, sum-each-ext f g xs h.1)

  pub sum-append : (f : A → ℤ) (xs ys : List A) → sum_of f (xs ++ ys) ≡ sum_of f xs +ℤ sum_of f ys
  unfolding sum_of
  sum-append f [] ys = sym (+ℤ_idl (sum_of f ys))
  sum-append f (x ∷ xs) ys = rw (sum-append f xs ys) (simp sorted (simp count (omega arith)))

  pub append_sums : (f : A → ℤ) (xs ys : List A) {a b : ℤ} → sum_of f xs ≡ a → sum_of f ys ≡ b → sum_of f (xs ++ ys) ≡ a +ℤ b
  append_sums f xs ys h k = sum-append f xs ys ∙ rw (h, k)

  pub sum_one : (f : A → ℤ) (x : A) → sum_of f (x ∷ []) ≡ f x
  unfolding sum_of
  sum_one f x = +ℤ_idr (f x)

  -- a test that does not turn on the element, in either factor
  pub sum-cond : (t : Bool) (g h : A → ℤ) (xs : List A) → sum_of (λ x. g x *ℤ cond t (h x) (pos 0)) xs ≡ cond t (sum_of (λ x. g x *ℤ h x) xs) (pos 0)
  sum-cond true g h xs = refl
  sum-cond false g h xs = sum-ext _ _ (λ x. *ℤ-zero (g x)) xs ∙ sum-zero xs

  pub sum-cond-l : (t : Bool) (h g : A → ℤ) (xs : List A) → sum_of (λ x. cond t (h x) (pos 0) *ℤ g x) xs ≡ cond t (sum_of (λ x. h x *ℤ g x) xs) (pos 0)
  sum-cond-l true h g xs = refl
  sum-cond-l false h g xs = sum-ext _ _ (λ x. zero-*ℤ (g x)) xs ∙ sum-zero xs

  -- ---- order
  pub sum_mono : (f g : A → ℤ) (xs : List A) → Each (λ x. f x ≤ℤ g x) xs → sum_of f xs ≤ℤ sum_of g xs
  unfolding sum_of
  sum_mono f g [] h = ≤ℤ_refl (pos 0)
  sum_mono f g (x ∷ xs) h = +ℤ-mono h.0 (sum_mono f g xs h.1)

  pub sum_nonneg : (f : A → ℤ) (xs : List A) → Each (λ x. pos 0 ≤ℤ f x) xs → pos 0 ≤ℤ sum_of f xs
  unfolding sum_of
  sum_nonneg f [] h = ≤ℤ_refl (pos 0)
  sum_nonneg f (x ∷ xs) h = +ℤ-mono h.0 (sum_nonneg f xs h.1)

  -- a sum of terms that are not negative is zero only where each is, and then is
  pub sum-all-zero : (f : A → ℤ) (xs : List A) → Each (λ x. pos 0 ≤ℤ f x) xs → sum_of f xs ≡ pos 0 → Each (λ x. f x ≡ pos 0) xs
  unfolding sum_of
  sum-all-zero f [] h e = tt
  sum-all-zero f (x ∷ xs) h e =
      let z = both_zero (f x) (sum_of f xs) h.0 (sum_nonneg f xs h.1) e in
      (z.0, sum-all-zero f xs h.1 z.1)

  pub all-zero-sum : (f : A → ℤ) (xs : List A) → Each (λ x. f x ≡ pos 0) xs → sum_of f xs ≡ pos 0
  unfolding sum_of
  all-zero-sum f [] h = refl
  all-zero-sum f (x ∷ xs) h = rw (h.0, all-zero-sum f xs h.1)

module _ {A B : Type 0} where
  pub sum-map : (f : B → ℤ) (g : A → B) (xs : List A) → sum_of f (map g xs) ≡ sum_of (λ x. f (g x)) xs
  unfolding sum_of
  sum-map f g [] = refl
  sum-map f g (x ∷ xs) = rw (sum-map f g xs)

  pub sum-across : (f : B → ℤ) (g : A → List B) (xs : List A) → sum_of f (across g xs) ≡ sum_of (λ x. sum_of f (g x)) xs
  unfolding sum_of across
  sum-across f g [] = refl
  sum-across f g (x ∷ xs) = rw (sum-append f (g x) (across g xs), sum-across f g xs)

  -- the order of two sums
  pub sum-swap : (f : A → B → ℤ) (xs : List A) (ys : List B) → sum_of (λ x. sum_of (f x) ys) xs ≡ sum_of (λ y. sum_of (λ x. f x y) xs) ys
  unfolding sum_of
  sum-swap f [] ys = sym (sum-zero ys)
  sum-swap f (x ∷ xs) ys = rw (sum-swap f xs ys) (sym (sum-add (f x) (λ y. sum_of (λ x. f x y) xs) ys))

-- ---- over the numbers below n
pub sum-upto : (f : ℕ → ℤ) (n : ℕ) → sum_of f (upto (n + 1)) ≡ sum_of f (upto n) +ℤ f n
unfolding upto
sum-upto f n = rw add-one (sum-append f (upto n) (n ∷ []) ∙ ap (λ (t : ℤ). sum_of f (upto n) +ℤ t) (sum_one f n))
