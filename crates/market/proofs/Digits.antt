-- Decimal digits: equal digits are of equal numbers.
use mathlib.Core.Path.{◌≡◌, refl, sym, ◌∙◌, ap}
use mathlib.Core.Bool.{Bool, true, false}
use mathlib.Core.List.{List, ◌∷◌, ◌++◌}
use Prim.Native.Nat.{ℕ, zero, suc, ◌+◌, ◌/◌, ◌%◌, ◌^◌, ◌<◌, ◌≤◌}
use native.Mathlib.Nat.{pow-suc}
use native.Mathlib.Decide.{dec_lt}
use native.Mathlib.Omega.{arith}
use lib.Dec.{ltb}
use lib.ListN.{length}
use borrow.Author.Tests.{lt-ltb, le-ltb}
use Rattle.market.specs.Program.{digits_on}

-- of a number of one digit, of more, and past the last
last_digit : (fuel n : ℕ) (t : List ℕ) → n < 10 → digits_on (suc fuel) n t ≡ (48 + n) ∷ t
unfolding digits_on
last_digit fuel n t h = rw (lt-ltb n 10 h, digits_on)

more_digits : (fuel n : ℕ) (t : List ℕ) → 10 ≤ n → digits_on (suc fuel) n t ≡ digits_on fuel (n / 10) ((48 + n % 10) ∷ t)
unfolding digits_on
more_digits fuel n t h = rw (le-ltb n 10 h, digits_on)

no_more : (n : ℕ) (t : List ℕ) → digits_on zero n t ≡ t
unfolding digits_on
no_more n t = refl

pub digits_append : (fuel n : ℕ) (t u : List ℕ) → digits_on fuel n t ++ u ≡ digits_on fuel n (t ++ u)
unfolding digits_on
digits_append zero n t u = refl
digits_append (suc fuel) n t u = go (ltb n 10) (digits_append fuel (n / 10) ((48 + n % 10) ∷ t) u)
  where
    go : (s : Bool) → digits_on fuel (n / 10) ((48 + n % 10) ∷ t) ++ u ≡ digits_on fuel (n / 10) ((48 + n % 10) ∷ (t ++ u))
        → ◌≡◌ {A = List ℕ} (elim s [ true ↦ (48 + n) ∷ t | false ↦ digits_on fuel (n / 10) ((48 + n % 10) ∷ t) ] ++ u) (elim s [ true ↦ (48 + n) ∷ (t ++ u) | false ↦ digits_on fuel (n / 10) ((48 + n % 10) ∷ (t ++ u)) ])
    go true h = refl
    go false h = h

-- at least one
digits_long : (fuel n : ℕ) (t : List ℕ) → length t < length (digits_on (suc fuel) n t)
digits_long zero n t = go (dec_lt n 10)
  where
    go : Dec (n < 10) → length t < length (digits_on (suc zero) n t)
    go (yes h) = rw (last_digit zero n t h) (omega arith)
    go (no h) = rw (more_digits zero n t (omega arith), no_more (n / 10) ((48 + n % 10) ∷ t)) (omega arith)
digits_long (suc fuel) n t = go (dec_lt n 10) (digits_long fuel (n / 10) ((48 + n % 10) ∷ t))
  where
    go : Dec (n < 10) → suc (length t) < length (digits_on (suc fuel) (n / 10) ((48 + n % 10) ∷ t)) → length t < length (digits_on (suc (suc fuel)) n t)
    go (yes h) k = rw (last_digit (suc fuel) n t h) (omega arith)
    go (no h) k = rw (more_digits (suc fuel) n t (omega arith)) (omega (arith, k))

-- equal digits are of equal numbers, where one of the two has a digit to spare
abbrev pub SameDigits : ℕ → ℕ → ℕ → List ℕ → List ℕ → Type 0
SameDigits fuel m n t u = digits_on (suc fuel) n t ≡ digits_on (suc fuel) m u → (n ≡ m) × (t ≡ u)

digits_step : (fuel m n : ℕ) (t u : List ℕ) → length t ≡ length u → (10 ≤ m → SameDigits fuel (m / 10) (n / 10) ((48 + n % 10) ∷ t) ((48 + m % 10) ∷ u)) → SameDigits (suc fuel) m n t u
digits_step fuel m n t u s rest e = go (dec_lt n 10) (dec_lt m 10)
  where
    go : Dec (n < 10) → Dec (m < 10) → (n ≡ m) × (t ≡ u)
    go (yes a) (yes b) =
        let k : (48 + n) ∷ t ≡ (48 + m) ∷ u = sym (last_digit (suc fuel) n t a) ∙ (e ∙ last_digit (suc fuel) m u b) in
        let d : 48 + n ≡ 48 + m = cc in
        (omega (arith, d), cc)
    go (yes a) (no b) =
        let k : (48 + n) ∷ t ≡ digits_on (suc fuel) (m / 10) ((48 + m % 10) ∷ u) = sym (last_digit (suc fuel) n t a) ∙ (e ∙ more_digits (suc fuel) m u (omega arith)) in
        absurd (omega (arith, s, ap (λ (l : List ℕ). length l) k, digits_long fuel (m / 10) ((48 + m % 10) ∷ u)))
    go (no a) (yes b) =
        let k : digits_on (suc fuel) (n / 10) ((48 + n % 10) ∷ t) ≡ (48 + m) ∷ u = sym (more_digits (suc fuel) n t (omega arith)) ∙ (e ∙ last_digit (suc fuel) m u b) in
        absurd (omega (arith, s, ap (λ (l : List ℕ). length l) k, digits_long fuel (n / 10) ((48 + n % 10) ∷ t)))
    go (no a) (no b) =
        let r = rest (omega arith) (sym (more_digits (suc fuel) n t (omega arith)) ∙ (e ∙ more_digits (suc fuel) m u (omega arith))) in
        let k : (48 + n % 10) ∷ t ≡ (48 + m % 10) ∷ u = r.1 in
        let d : 48 + n % 10 ≡ 48 + m % 10 = cc in
        (omega (arith, r.0, d), cc)

pub digits_same : (fuel m n : ℕ) (t u : List ℕ) → m < 10 ^ suc fuel → length t ≡ length u → SameDigits (suc fuel) m n t u
digits_same zero m n t u l s = digits_step zero m n t u s (λ h. absurd (omega arith))
digits_same (suc fuel) m n t u l s =
    digits_step (suc fuel) m n t u s (λ h. digits_same fuel (m / 10) (n / 10) ((48 + n % 10) ∷ t) ((48 + m % 10) ∷ u) (omega (arith, pow-suc 10 (suc fuel))) (omega arith))
