-- The digits that are written one by one are those of market's decimal, and no number has more than the room allows.
use mathlib.Core.Path.{◌≡◌, refl, sym, ◌∙◌, ap}
use mathlib.Core.Bool.{Bool, true, false}
use mathlib.Core.List.{List, [], ◌∷◌, ◌++◌, append_assoc, append-nil}
use Prim.Native.Nat.{ℕ, zero, suc, ◌+◌, ◌*◌, ◌/◌, ◌%◌, ◌^◌, ◌<◌, ◌≤◌}
use native.Mathlib.Nat.{pow-suc}
use native.Mathlib.Omega.{arith}
use native.Mathlib.Numerals.{add-one}
use lib.Dec.{ltb}
use lib.IntN.{ℤ, pos, negsuc, nat_abs}
use lib.Signed.{lt_z}
use lib.ListN.{length, drop, set, length-append, length-set}
use lib.Seq.{drop-cons, drop-set-lt, get_or-set_same}
use Rattle.std.specs.Prelude.{Option, Some, None, IfSome, IfNone}
use Rattle.std.specs.Option.{unwrap_or}
use borrow.Author.Tests.{lt-ltb, le-ltb, ltb-true}
use Rattle.market.specs.Program.{digits_on, decimal}
use Rattle.decimals.specs.Digits.{digit_count, last_digits}
use Rattle.decimals.specs.Written.{most_digits, most_decimal}

-- ---- how many there are
count_last : (fuel n : ℕ) → n < 10 → digit_count (suc fuel) n ≡ 1
unfolding digit_count
count_last fuel n h = rw (lt-ltb n 10 h, digit_count)

count_more : (fuel n : ℕ) → 10 ≤ n → digit_count (suc fuel) n ≡ suc (digit_count fuel (n / 10))
unfolding digit_count
count_more fuel n h = rw (le-ltb n 10 h, digit_count)

pub count_most : (fuel n : ℕ) → digit_count fuel n ≤ fuel
unfolding digit_count
count_most zero n = omega arith
count_most (suc fuel) n = go (ltb n 10) (count_most fuel (n / 10))
  where
    go : (t : Bool) → digit_count fuel (n / 10) ≤ fuel → elim t [ true ↦ 1 | false ↦ suc (digit_count fuel (n / 10)) ] ≤ suc fuel
    go true h = omega arith
    go false h = omega (arith, h)

-- one more than the logarithm says, and of 0, which has none, one
count_above : (fuel k n : ℕ) → k < fuel → 10 ^ k ≤ n → n < 10 * 10 ^ k → suc k ≡ digit_count fuel n
count_above zero k n f l h = absurd (omega arith)
count_above (suc fuel) zero n f l h = sym (count_last fuel n (omega arith))
count_above (suc fuel) (suc k) n f l h =
    let p = pow-suc 10 k in
    ap suc (count_above fuel k (n / 10) (omega arith) (omega (arith, p)) (omega (arith, p))) ∙ sym (count_more fuel n (omega (arith, p)))

pub count_by_log : (n : ℕ) (log : Option ℕ) → IfNone log (n ≡ 0) → IfSome log (λ k. 10 ^ k ≤ n) → IfSome log (λ k. n < 10 * 10 ^ k) → IfSome log (λ k. k < most_digits)
    → unwrap_or log 0 + 1 ≡ digit_count most_digits n
count_by_log n None z l h f = rw z (sym (count_last 19 0 (omega arith)))
count_by_log n (Some k) z l h f = rw add-one (count_above most_digits k n f l h)

-- ---- the digits
pub last_length : (k n : ℕ) → length (last_digits k n) ≡ k
unfolding last_digits
last_length zero n = refl
last_length (suc k) n = omega (arith, length-append (last_digits k (n / 10)) ((48 + n % 10) ∷ []), last_length k (n / 10))

pub digits_are : (fuel n : ℕ) (tail : List ℕ) → digits_on fuel n tail ≡ last_digits (digit_count fuel n) n ++ tail
unfolding digits_on digit_count last_digits
digits_are zero n tail = refl
digits_are (suc fuel) n tail = go (ltb n 10) refl (digits_are fuel (n / 10) ((48 + n % 10) ∷ tail))
  where
    go : (t : Bool) → ltb n 10 ≡ t → digits_on fuel (n / 10) ((48 + n % 10) ∷ tail) ≡ last_digits (digit_count fuel (n / 10)) (n / 10) ++ ((48 + n % 10) ∷ tail)
        → ◌≡◌ {A = List ℕ} (elim t [ true ↦ (48 + n) ∷ tail | false ↦ digits_on fuel (n / 10) ((48 + n % 10) ∷ tail) ]) (last_digits (elim t [ true ↦ 1 | false ↦ suc (digit_count fuel (n / 10)) ]) n ++ tail)
    go true e h = let s : n % 10 ≡ n = omega (arith, ltb-true n 10 e) in rw s
    go false e h = h ∙ sym (append_assoc (last_digits (digit_count fuel (n / 10)) (n / 10)) ((48 + n % 10) ∷ []) tail)

pub magnitude_digits : (n : ℕ) → digits_on most_digits n [] ≡ last_digits (digit_count most_digits n) n
magnitude_digits n = digits_are most_digits n [] ∙ append-nil (last_digits (digit_count most_digits n) n)

pub magnitude_most : (n : ℕ) → length (digits_on most_digits n []) ≤ most_digits
magnitude_most n = rw (magnitude_digits n) (omega (arith, last_length (digit_count most_digits n) n, count_most most_digits n))

-- one more, before those that stand from k on
pub digit_before : (k n : ℕ) (out : List ℕ) → k < length out → last_digits k (n / 10) ++ drop k (set out k (48 + n % 10)) ≡ last_digits (suc k) n ++ drop (suc k) out
unfolding last_digits
digit_before k n out h =
    rw (drop-cons (set out k (48 + n % 10)) k 0 (omega (arith, length-set out k (48 + n % 10))), drop-set-lt (suc k) out k (48 + n % 10) (omega arith), get_or-set_same out k (48 + n % 10) 0 h, append_assoc)

-- ---- with the sign
pub decimal_most : (v : ℤ) → length (decimal v) ≤ most_decimal
unfolding decimal
decimal_most (pos n) = omega (arith, magnitude_most n)
decimal_most (negsuc n) = omega (arith, magnitude_most (suc n))

pub below_zero : (v : ℤ) → lt_z v (pos 0) ≡ true → decimal v ≡ 45 ∷ digits_on most_digits (nat_abs v) []
unfolding decimal
below_zero (pos n) h = absurd (omega (arith, ltb-true n 0 h))
below_zero (negsuc n) h = refl

pub not_below : (v : ℤ) → lt_z v (pos 0) ≡ false → decimal v ≡ digits_on most_digits (nat_abs v) []
unfolding decimal
not_below (pos n) h = refl
not_below (negsuc n) h = absurd (let z : ◌≡◌ {A = ℕ} 0 1 = cc in omega arith)
