-- Tests joined by 'and', and a test of all elements of a list.
use mathlib.Core.Path.{◌≡◌, refl, sym, ◌∙◌}
use mathlib.Core.Logic.{◌⊎◌, inl, inr}
use mathlib.Core.Bool.{Bool, true, false, ◌&&◌}
use mathlib.Core.List.{List, [], ◌∷◌, ◌++◌, map}
use Prim.Native.Nat.{ℕ, zero, suc, ◌+◌, ◌<◌}
use native.Mathlib.Decide.{dec_lt}
use native.Mathlib.Numerals.{add-one}
use native.Mathlib.Omega.{arith}
use lib.Dec.{T}
use Rattle.arith.specs.Sums.{Each, all, upto, across}

pub and_split : (a b : Bool) → T (a && b) → T a × T b
and_split true b h = (tt, h)
and_split false b h = absurd h

pub and_join : (a b : Bool) → T a → T b → T (a && b)
and_join true b h k = k
and_join false b h k = absurd h

pub and_assoc : (a b c : Bool) → (a && (b && c)) ≡ ((a && b) && c)
and_assoc true b c = refl
and_assoc false b c = refl

pub and_true : (a : Bool) → (a && true) ≡ a
and_true true = refl
and_true false = refl

pub and_false : (a : Bool) → (a && false) ≡ false
and_false true = refl
and_false false = refl

-- several tests, joined as `a && b && c` is read
abbrev pub joined : Bool → List Bool → Bool
joined a [] = a
joined a (b ∷ bs) = joined (a && b) bs

pub and-each : (a : Bool) (bs : List Bool) → T (joined a bs) → T a × Each T bs
and-each a [] h = (h, tt)
and-each a (b ∷ bs) h =
    let r = and-each (a && b) bs h in
    let s = and_split a b r.0 in
    (s.0, (s.1, r.1))

module _ {A : Type 0} where
  pub all-each : (f : A → Bool) (xs : List A) → T (all f xs) → Each (λ x. T (f x)) xs
  unfolding all
  all-each f [] h = tt
  all-each f (x ∷ xs) h = let r = and_split (f x) (all f xs) h in (r.0, all-each f xs r.1)

  pub each_all : (f : A → Bool) (xs : List A) → Each (λ x. T (f x)) xs → T (all f xs)
  unfolding all
  each_all f [] h = tt
  each_all f (x ∷ xs) h = and_join (f x) (all f xs) h.0 (each_all f xs h.1)

-- ---- a test of each element, in lists made piece by piece
module _ {A : Type 0} (f : A → Bool) where
  pub all_append : (xs ys : List A) → all f (xs ++ ys) ≡ (all f xs && all f ys)
  unfolding all
  all_append [] ys = refl
  all_append (x ∷ xs) ys = rw (all_append xs ys) (and_assoc (f x) (all f xs) (all f ys))

module _ {A B : Type 0} (f : B → Bool) where
  pub all_map : (g : A → B) (xs : List A) → all f (map g xs) ≡ all (λ x. f (g x)) xs
  unfolding all
  all_map g [] = refl
  all_map g (x ∷ xs) = rw (all_map g xs)

  pub all-across : (g : A → List B) (xs : List A) → all f (across g xs) ≡ all (λ x. all f (g x)) xs
  unfolding all across
  all-across g [] = refl
  all-across g (x ∷ xs) = all_append f (g x) (across g xs) ∙ rw (all-across g xs)

-- ---- a test of each number below n, as a loop makes it
module _ (f : ℕ → Bool) where
  pub all_none : all f (upto 0) ≡ true
  unfolding all upto
  all_none = refl

  pub all-upto : (i : ℕ) → all f (upto (i + 1)) ≡ (all f (upto i) && f i)
  unfolding all upto
  all-upto i = rw (add-one, all_append f (upto i) (i ∷ []), and_true (f i))

  pub all_more : (i : ℕ) → all f (upto i) ≡ true → f i ≡ true → all f (upto (i + 1)) ≡ true
  all_more i h k = rw (all-upto i, h, k)

  -- the answer so far, kept where the next test holds and false where it does not
  pub all_next : (i : ℕ) {before here after : Bool} → before ≡ all f (upto i) → here ≡ f i → ((here ≡ true) × (after ≡ before)) ⊎ ((here ≡ false) × (after ≡ false)) → after ≡ all f (upto (i + 1))
  all_next i h k (inl (t, e)) = rw (e, h, all-upto i, ← k, t) (sym (and_true (all f (upto i))))
  all_next i h k (inr (t, e)) = rw (e, all-upto i, ← k, t) (sym (and_false (all f (upto i))))

  -- one that fails
  pub all_stop : (n i : ℕ) → i < n → f i ≡ false → all f (upto n) ≡ false
  all_stop zero i l h = absurd (omega arith)
  all_stop (suc n) i l h = go (all_stop n i) (dec_lt i n)
    where
      go : (i < n → f i ≡ false → all f (upto n) ≡ false) → Dec (i < n) → all f (upto (suc n)) ≡ false
      go below (yes k) = rw (← (add-one n), all-upto n, below k h)
      go below (no k) = let e : n ≡ i = omega arith in rw (← (add-one n), all-upto n, e, h) (and_false (all f (upto i)))
