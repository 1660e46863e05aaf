-- What holds of each element of a list made piece by piece; lengths.
use mathlib.Core.Path.{◌≡◌, refl, ◌∙◌, ap}
use mathlib.Core.List.{List, [], ◌∷◌, ◌++◌, map, append_assoc, append-nil, map-append}
use Prim.Native.Nat.{ℕ, zero, suc, ◌+◌, ◌*◌, ◌<◌}
use native.Mathlib.Decide.{dec_lt}
use native.Mathlib.Numerals.{add-one}
use native.Mathlib.Omega.{arith}
use lib.ListN.{length, get_or, drop, length-append}
use Rattle.arith.specs.Sums.{Each, upto, across}

module _ {A : Type 0} where
  pub each_imp : {P Q : A → Type 0} → ((x : A) → P x → Q x) → (xs : List A) → Each P xs → Each Q xs
  each_imp f [] h = tt
  each_imp f (x ∷ xs) h = (f x h.0, each_imp f xs h.1)

  pub each-any : (P : A → Type 0) (xs : List A) → ((x : A) → P x) → Each P xs
  each-any P [] f = tt
  each-any P (x ∷ xs) f = (f x, each-any P xs f)

  pub each_and : (P Q : A → Type 0) (xs : List A) → Each P xs → Each Q xs → Each (λ x. P x × Q x) xs
  each_and P Q [] h k = tt
  each_and P Q (x ∷ xs) h k = ((h.0, k.0), each_and P Q xs h.1 k.1)

  pub each_join : (P : A → Type 0) (xs ys : List A) → Each P xs → Each P ys → Each P (xs ++ ys)
  each_join P [] ys h k = k
  each_join P (x ∷ xs) ys h k = (h.0, each_join P xs ys h.1 k)

  pub each_split : (P : A → Type 0) (xs ys : List A) → Each P (xs ++ ys) → Each P xs × Each P ys
  each_split P [] ys h = (tt, h)
  each_split P (x ∷ xs) ys h = let r = each_split P xs ys h.1 in ((h.0, r.0), r.1)

  pub each-drop : (P : A → Type 0) (n : ℕ) (xs : List A) → Each P xs → Each P (drop n xs)
  each-drop P zero xs h = h
  each-drop P (suc n) [] h = h
  each-drop P (suc n) (x ∷ xs) h = each-drop P n xs h.1

  -- the element at a place, and what is read beyond the end
  pub each_at : (P : A → Type 0) (xs : List A) (d : A) → Each P xs → P d → (i : ℕ) → P (get_or xs i d)
  each_at P [] d h k i = k
  each_at P (x ∷ xs) d h k zero = h.0
  each_at P (x ∷ xs) d h k (suc i) = each_at P xs d h.1 k i

module _ {A B : Type 0} where
  pub each_of_map : (P : B → Type 0) (g : A → B) (xs : List A) → Each P (map g xs) → Each (λ x. P (g x)) xs
  each_of_map P g [] h = tt
  each_of_map P g (x ∷ xs) h = (h.0, each_of_map P g xs h.1)

  pub each_map : (P : B → Type 0) (g : A → B) (xs : List A) → Each (λ x. P (g x)) xs → Each P (map g xs)
  each_map P g [] h = tt
  each_map P g (x ∷ xs) h = (h.0, each_map P g xs h.1)

  pub each_of_across : (P : B → Type 0) (g : A → List B) (xs : List A) → Each P (across g xs) → Each (λ x. Each P (g x)) xs
  unfolding across
  each_of_across P g [] h = tt
  each_of_across P g (x ∷ xs) h = let r = each_split P (g x) (across g xs) h in (r.0, each_of_across P g xs r.1)

  pub each-across : (P : B → Type 0) (g : A → List B) (xs : List A) → Each (λ x. Each P (g x)) xs → Each P (across g xs)
  unfolding across
  each-across P g [] h = tt
  each-across P g (x ∷ xs) h = each_join P (g x) (across g xs) h.0 (each-across P g xs h.1)

  pub across-append : (g : A → List B) (xs ys : List A) → across g (xs ++ ys) ≡ across g xs ++ across g ys
  unfolding across
  across-append g [] ys = refl
  across-append g (x ∷ xs) ys = rw (across-append g xs ys, append_assoc (g x) (across g xs) (across g ys))

  -- one for each element
  pub across-one : (g : A → B) (xs : List A) → across (λ x. g x ∷ []) xs ≡ map g xs
  unfolding across
  across-one g [] = refl
  across-one g (x ∷ xs) = ap (λ (l : List B). g x ∷ l) (across-one g xs)

  -- n for each element
  pub length-across : (g : A → List B) (n : ℕ) → ((x : A) → length (g x) ≡ n) → (xs : List A) → length (across g xs) ≡ length xs * n
  unfolding across
  length-across g n h [] = omega arith
  length-across g n h (x ∷ xs) = omega (arith, length-append (g x) (across g xs), h x, length-across g n h xs)

pub length-upto : (n : ℕ) → length (upto n) ≡ n
unfolding upto
length-upto zero = refl
length-upto (suc n) = omega (arith, length-append (upto n) (n ∷ []), length-upto n)

-- ---- lists made of the numbers below n, as a loop makes them
module _ {B : Type 0} where
  pub across-upto : (g : ℕ → List B) (n : ℕ) → across g (upto (n + 1)) ≡ across g (upto n) ++ g n
  unfolding upto across
  across-upto g n = rw add-one (across-append g (upto n) (n ∷ []) ∙ rw (append-nil (g n)))

  pub map-upto : (g : ℕ → B) (n : ℕ) → map g (upto (n + 1)) ≡ map g (upto n) ++ (g n ∷ [])
  unfolding upto
  map-upto g n = rw add-one (map-append g (upto n) (n ∷ []))

-- ---- of each number below n
pub each-upto : (Q : ℕ → Type 0) (n : ℕ) → ((i : ℕ) → i < n → Q i) → Each Q (upto n)
unfolding upto
each-upto Q zero h = tt
each-upto Q (suc n) h = each_join Q (upto n) (n ∷ []) (each-upto Q n (λ i l. h i (omega arith))) (h n (omega arith), tt)

pub at_upto : (Q : ℕ → Type 0) (n : ℕ) → Each Q (upto n) → (i : ℕ) → i < n → Q i
unfolding upto
at_upto Q zero h i l = absurd (omega arith)
at_upto Q (suc n) h i l = go (each_split Q (upto n) (n ∷ []) h) (at_upto Q n) (dec_lt i n)
  where
    go : Each Q (upto n) × Each Q (n ∷ []) → (Each Q (upto n) → (j : ℕ) → j < n → Q j) → Dec (i < n) → Q i
    go r below (yes k) = below r.0 i k
    go r below (no k) = let e : n ≡ i = omega arith in rw e at r.1.0
