-- Numbers passed one by one, each with its field: whether the first k fit, and the bytes that they make.
use mathlib.Core.Path.{◌≡◌, refl, sym, ◌∙◌, ap, subst}
use mathlib.Core.Bool.{Bool, true, false, ◌&&◌}
use mathlib.Core.List.{List, [], ◌∷◌, ◌++◌, append-nil, append_assoc}
use mathlib.Core.Logic.{◌≢◌}
use Prim.Native.Nat.{ℕ, zero, suc, ◌+◌, ◌<◌, ◌≤◌}
use native.Mathlib.Nat.{not-suc-le-zero, le_of_suc-le-suc}
use native.Mathlib.Numerals.{add-one}
use native.Mathlib.Omega.{arith}
use lib.Dec.{T}
use lib.IntN.{ℤ, pos}
use lib.ListN.{length, get_or, take, length-append}
use lib.Seq.{take_all, length-take-le}
use Rattle.std.proofs.lemmas.List.{take_more}
use Rattle.arith.specs.Sums.{total_of, upto, all}
use Rattle.arith.proofs.AllTests.{and_split, and_assoc, and_true, and_false, all_append}
use Rattle.market.specs.Bytes.{within_ℤ}
use Rattle.market.specs.Numbers.{Field, u8, field_width, field_low, field_high, field_bytes, bytes_of, numbers_fit}
use Rattle.market.proofs.FieldBytes.{field_length}
use Rattle.write_numbers.proofs.Fitting.{is_true}

-- the number fits the field
abbrev pub fits_field : Field → ℤ → Bool
fits_field f v = within_ℤ (field_low f) (field_high f) v

-- ---- two lists, one behind the other
fit_append : (fs gs : List Field) (us vs : List ℤ) → length fs ≡ length us → numbers_fit (fs ++ gs) (us ++ vs) ≡ (numbers_fit fs us && numbers_fit gs vs)
unfolding numbers_fit
fit_append [] gs [] vs e = refl
fit_append [] gs (u ∷ us) vs e = absurd (omega arith)
fit_append (f ∷ fs) gs [] vs e = absurd (omega arith)
fit_append (f ∷ fs) gs (u ∷ us) vs e = ap (λ (t : Bool). fits_field f u && t) (fit_append fs gs us vs (omega arith)) ∙ and_assoc (fits_field f u) (numbers_fit fs us) (numbers_fit gs vs)

bytes_append : (fs gs : List Field) (us vs : List ℤ) → length fs ≡ length us → bytes_of (fs ++ gs) (us ++ vs) ≡ bytes_of fs us ++ bytes_of gs vs
unfolding bytes_of
bytes_append [] gs [] vs e = refl
bytes_append [] gs (u ∷ us) vs e = absurd (omega arith)
bytes_append (f ∷ fs) gs [] vs e = absurd (omega arith)
bytes_append (f ∷ fs) gs (u ∷ us) vs e = ap (λ (b : List ℕ). field_bytes f u ++ b) (bytes_append fs gs us vs (omega arith)) ∙ sym (append_assoc (field_bytes f u) (bytes_of fs us) (bytes_of gs vs))

pub bytes_long : (fs : List Field) (vs : List ℤ) → length fs ≡ length vs → length (bytes_of fs vs) ≡ total_of field_width fs
unfolding bytes_of total_of
bytes_long [] vs e = refl
bytes_long (f ∷ fs) [] e = absurd (omega arith)
bytes_long (f ∷ fs) (v ∷ vs) e = omega (arith, length-append (field_bytes f v) (bytes_of fs vs), field_length f v, bytes_long fs vs (omega arith))

-- ---- all of them
and_first : (a b : Bool) → (a && b) ≡ true → a ≡ true
and_first a b e = is_true a (and_split a b (subst T (sym e) tt)).0

and_second : (a b : Bool) → (a && b) ≡ true → b ≡ true
and_second a b e = is_true b (and_split a b (subst T (sym e) tt)).1

pub fit_length : (fs : List Field) (vs : List ℤ) → numbers_fit fs vs ≡ true → length fs ≡ length vs
unfolding numbers_fit
fit_length [] [] e = refl
fit_length [] (v ∷ vs) e = absurd (subst T (sym e) tt)
fit_length (f ∷ fs) [] e = absurd (subst T (sym e) tt)
fit_length (f ∷ fs) (v ∷ vs) e = ap suc (fit_length fs vs (and_second (fits_field f v) (numbers_fit fs vs) e))

pub fit_at : (fs : List Field) (vs : List ℤ) (k : ℕ) → numbers_fit fs vs ≡ true → k < length fs → fits_field (get_or fs k u8) (get_or vs k (pos 0)) ≡ true
unfolding numbers_fit
fit_at [] vs k e h = absurd (not-suc-le-zero h)
fit_at (f ∷ fs) [] k e h = absurd (subst T (sym e) tt)
fit_at (f ∷ fs) (v ∷ vs) zero e h = and_first (fits_field f v) (numbers_fit fs vs) e
fit_at (f ∷ fs) (v ∷ vs) (suc k) e h = fit_at fs vs k (and_second (fits_field f v) (numbers_fit fs vs) e) (le_of_suc-le-suc h)

-- what refuses them: their number, or one that does not fit
pub length_differs : (fs : List Field) (vs : List ℤ) → length fs ≢ length vs → false ≡ numbers_fit fs vs
unfolding numbers_fit
length_differs [] [] h = absurd (h refl)
length_differs [] (v ∷ vs) h = refl
length_differs (f ∷ fs) [] h = refl
length_differs (f ∷ fs) (v ∷ vs) h = rw (← (length_differs fs vs (λ e. h (ap suc e))), and_false (fits_field f v))

-- ---- one more
module _ (fs : List Field) (vs : List ℤ) (k : ℕ) (e : length fs ≡ length vs) (h : k < length fs) where
  abbrev field : Field
  field = get_or fs k u8

  abbrev number : ℤ
  number = get_or vs k (pos 0)

  many : length (take k fs) ≡ length (take k vs)
  many = omega (arith, length-take-le k fs (omega arith), length-take-le k vs (omega arith))

  fit_next : numbers_fit (take (k + 1) fs) (take (k + 1) vs) ≡ (numbers_fit (take k fs) (take k vs) && fits_field (get_or fs k u8) (get_or vs k (pos 0)))
  unfolding numbers_fit
  fit_next = rw (take_more fs k u8 h, take_more vs k (pos 0) (omega arith), fit_append (take k fs) (field ∷ []) (take k vs) (number ∷ []) many, and_true (fits_field field number))

  pub bytes_next : bytes_of (take (k + 1) fs) (take (k + 1) vs) ≡ bytes_of (take k fs) (take k vs) ++ field_bytes (get_or fs k u8) (get_or vs k (pos 0))
  unfolding bytes_of
  bytes_next = rw (take_more fs k u8 h, take_more vs k (pos 0) (omega arith), bytes_append (take k fs) (field ∷ []) (take k vs) (number ∷ []) many, append-nil (field_bytes field number))

  pub bytes_many : length (bytes_of (take k fs) (take k vs)) ≡ total_of field_width (take k fs)
  bytes_many = bytes_long (take k fs) (take k vs) many

-- ---- past the last
pub bytes_whole : (fs : List Field) (vs : List ℤ) (k : ℕ) → length fs ≡ length vs → k ≡ length fs → bytes_of (take k fs) (take k vs) ≡ bytes_of fs vs
bytes_whole fs vs k e h = rw (take_all k fs (omega arith), take_all k vs (omega arith))

-- all fit where the number at each place does
module _ (fs : List Field) (vs : List ℤ) (e : length fs ≡ length vs) where
  abbrev pub fits_at : ℕ → Bool
  fits_at k = fits_field (get_or fs k u8) (get_or vs k (pos 0))

  fit_upto : (k : ℕ) → k ≤ length fs → all fits_at (upto k) ≡ numbers_fit (take k fs) (take k vs)
  unfolding all upto numbers_fit
  fit_upto zero h = refl
  fit_upto (suc k) h = all_append fits_at (upto k) (k ∷ []) ∙ rw (and_true (fits_at k), fit_upto k (omega arith)) (rw add-one at (sym (fit_next fs vs k e (omega arith))))

  pub fit_whole : all fits_at (upto (length fs)) ≡ numbers_fit fs vs
  fit_whole = fit_upto (length fs) (omega arith) ∙ rw (take_all (length fs) fs (omega arith), take_all (length fs) vs (omega arith))
