-- A text that grows piece by piece at the front of a buffer.
use mathlib.Core.Path.{◌≡◌, refl, sym, ap, ◌∙◌}
use mathlib.Core.List.{List, [], ◌∷◌, ◌++◌, append_assoc, append-nil}
use Prim.Native.Nat.{ℕ, ◌+◌, ◌*◌, ◌-◌, ◌<◌, ◌≤◌}
use native.Mathlib.Omega.{arith}
use native.Mathlib.Nat.{add-zero}
use native.Mathlib.Numerals.{add-one}
use lib.IntN.{ℤ, pos}
use lib.ListN.{length, take, drop, get_or, length-append, length-drop, take-append-drop}
use borrow.Rule.Slice.PartMut.{put_mid}
use lib.Seq.{take-suc, take_at, drop_at, drop-drop, length-take-le}
use Rattle.arith.specs.Sums.{across}
use Rattle.arith.proofs.Lists.{across-append}
use Rattle.market.specs.Program.{decimal, spaced, line}
use Rattle.arith.proofs.Buffers.{rest_is, put_rest}
use Rattle.decimals.specs.declared.Text.{Text}
use Rattle.decimals.specs.declared.Label.{Label}
use Rattle.decimals.specs.declared.Label.TheVariants.{Word, Number}
use Rattle.decimals.specs.Written.{HasRoom, Adds, label_text, most_label, most_figures}
use Rattle.decimals.proofs.Digits.{decimal_most}

-- of a buffer o with a written at n, and then b behind it
joined : (o y z a b : List ℕ) (n m : ℕ) → n + length a ≤ length o → m ≡ n + length a → y ≡ take n o ++ (a ++ drop (n + length a) o)
    → z ≡ take m y ++ (b ++ drop (m + length b) y) → z ≡ take n o ++ ((a ++ b) ++ drop (n + length (a ++ b)) o)
joined o y z a b n m room em ey ez =
    let front : length (take n o ++ a) ≡ m = omega (arith, em, length-append (take n o) a, length-take-le n o (omega arith)) in
    let s : n + (length a + length b) ≡ n + length a + length b = omega arith in
    let e : y ≡ (take n o ++ a) ++ drop m o = ey ∙ rw (append_assoc, em) refl in
    ez ∙ rw (← (drop-drop (length b) m y), e, take_at (take n o ++ a) (drop m o) m front, drop_at (take n o ++ a) (drop m o) m front, drop-drop (length b) m o, length-append a b, s, em, append_assoc (take n o) a (b ++ drop (n + length a + length b) o), append_assoc a b (drop (n + length a + length b) o)) refl

pub adds_nothing : (x : Text) → Adds [] x x
adds_nothing x = (refl, omega arith, rw add-zero (sym (take-append-drop x.length x.buffer.now)))

-- one text behind the other
pub adds_on : (a b : List ℕ) (x y z : Text) → HasRoom (length a) x → Adds a x y → Adds b y z → Adds (a ++ b) x z
adds_on a b x y z room h k =
    (k.0 ∙ h.0, omega (arith, h.1, k.1, length-append a b), joined x.buffer.now y.buffer.now z.buffer.now a b x.length y.length room h.1 h.2 k.2)

-- a text that is put into the part of the buffer behind it
pub adds_part : (t last old : List ℕ) (n at : ℕ) → at ≤ length old → n ≡ length t → last ≡ t ++ drop n (take (length old - at) (drop at old))
    → put_mid at (length old - at) old last ≡ take at old ++ (t ++ drop (at + length t) old)
adds_part t last old n at h e w = put_rest at old last h ∙ rw (w, rest_is at old, drop-drop n at old, e) refl

-- room that is left behind a text that takes its own at most
pub room_left : (a : List ℕ) (x y : Text) (m n : ℕ) → HasRoom (m + n) x → length a ≤ m → Adds a x y → HasRoom n y
room_left a x y m n room h k =
    omega (arith, k.1, ap length k.2, length-append (take x.length x.buffer.now) (a ++ drop (x.length + length a) x.buffer.now), length-append a (drop (x.length + length a) x.buffer.now), length-take-le x.length x.buffer.now (omega arith), length-drop (x.length + length a) x.buffer.now)

-- ---- figures, a space before each
abbrev pub figure : ℤ → List ℕ
figure v = 32 ∷ decimal v

module _ {A : Type 0} where
  pub across_most : (f : A → List ℕ) (m : ℕ) → ((x : A) → length (f x) ≤ m) → (xs : List A) → length (across f xs) ≤ m * length xs
  unfolding across
  across_most f m h [] = omega arith
  across_most f m h (x ∷ xs) = omega (arith, length-append (f x) (across f xs), h x, across_most f m h xs)

pub figures_most : (vs : List ℤ) → length (across figure vs) ≤ 22 * length vs
figures_most vs = across_most figure 22 (λ v. omega (arith, decimal_most v)) vs

pub figures_taken : (vs : List ℤ) (i : ℕ) → i ≤ length vs → length (across figure (take i vs)) ≤ 22 * i
figures_taken vs i h = omega (arith, figures_most (take i vs), length-take-le i vs h)

pub spaced_are : (vs : List ℤ) → spaced vs ≡ across figure vs ++ (10 ∷ [])
unfolding spaced across
spaced_are [] = refl
spaced_are (v ∷ vs) = rw (spaced_are vs, append_assoc)

pub spaced_most : (vs : List ℤ) → length (spaced vs) ≤ most_figures (length vs)
spaced_most vs = rw (spaced_are vs) (omega (arith, length-append (across figure vs) (10 ∷ []), figures_most vs))

-- those of the first i numbers and one more
pub figure_more : (vs : List ℤ) (i : ℕ) → i < length vs → across figure (take (i + 1) vs) ≡ across figure (take i vs) ++ figure (get_or vs i (pos 0))
unfolding across
figure_more vs i l = rw (add-one i, take-suc vs i (pos 0) l, across-append figure (take i vs) (get_or vs i (pos 0) ∷ []), append-nil (figure (get_or vs i (pos 0))))

-- a word and figures
pub line_most : (word : List ℕ) (vs : List ℤ) → length (line word vs) ≤ length word + most_figures (length vs)
line_most word vs = omega (arith, length-append word (spaced vs), spaced_most vs)

pub label_most : (label : Label) → length (label_text label) ≤ most_label label
label_most (Word word) = omega arith
label_most (Number number) = decimal_most number
