-- Bytes written into a slice one part behind the other: the fields of a file, and the file.
use mathlib.Core.Path.{◌≡◌, sym, ◌∙◌, ap}
use mathlib.Core.List.{List, [], ◌∷◌, ◌++◌, append_assoc}
use Prim.Native.Nat.{ℕ, ◌+◌, ◌-◌, ◌<◌, ◌≤◌}
use native.Mathlib.Omega.{arith}
use lib.ListN.{length, get_or, take, drop, length-append, take-append-drop}
use lib.Seq.{length-take-le, take_at, drop_at, drop-drop}
use lib.IntN.{ℤ, pos}
use Rattle.arith.specs.Sums.{total_of}
use Rattle.market.specs.Numbers.{Field, u8, field_width, field_bytes, u32_bytes, bytes_of, file_of}
use Rattle.market.proofs.FieldBytes.{field_length}
use Rattle.wire.specs.Within.{written}
use Rattle.fields.proofs.Walk.{width_within}
use Rattle.write_numbers.proofs.Walked.{bytes_long, bytes_next, bytes_many}

module _ {A : Type 0} where
  pub written_none : (p : ℕ) (old : List A) → written p [] old ≡ old
  written_none p old = let place : p + 0 ≡ p = omega arith in rw place (take-append-drop p old)

  -- the part b behind the part a
  write_on : (p : ℕ) (a b old : List A) → p + length a + length b ≤ length old → written (p + length a) b (written p a old) ≡ written p (a ++ b) old
  write_on p a b old h =
      let front = take p old ++ a in
      let n = p + length a in
      let rest = drop n old in
      let long : length front ≡ n = omega (arith, length-append (take p old) a, length-take-le p old (omega arith)) in
      let whole : written p a old ≡ front ++ rest = sym (append_assoc (take p old) a rest) in
      let begins : take n (front ++ rest) ≡ front = take_at front rest n long in
      let ends : drop (n + length b) (front ++ rest) ≡ drop (n + length b) old = sym (drop-drop (length b) n (front ++ rest)) ∙ ap (λ (l : List A). drop (length b) l) (drop_at front rest n long) ∙ drop-drop (length b) n old in
      let place : p + length (a ++ b) ≡ n + length b = omega (arith, length-append a b) in
      rw (whole, begins, ends, place, append_assoc (take p old) a (b ++ drop (n + length b) old), append_assoc a b (drop (n + length b) old))

-- ---- the fields fs of the numbers vs, from the place 5 on
module _ (fs : List Field) (vs : List ℤ) (e : length fs ≡ length vs) (old : List ℕ) (room : 5 + total_of field_width fs ≤ length old) where
  -- one more
  pub put_next : (k at : ℕ) (out last : List ℕ) → k < length fs → at ≡ 5 + total_of field_width (take k fs) → out ≡ written 5 (bytes_of (take k fs) (take k vs)) old
      → last ≡ written at (field_bytes (get_or fs k u8) (get_or vs k (pos 0))) out
      → last ≡ written 5 (bytes_of (take (k + 1) fs) (take (k + 1) vs)) old
  put_next k at out last h p o l =
      let stored = bytes_of (take k fs) (take k vs) in
      let new = field_bytes (get_or fs k u8) (get_or vs k (pos 0)) in
      let many = bytes_many fs vs k e h in
      let place : at ≡ 5 + length stored = omega arith in
      let enough : 5 + length stored + length new ≤ length old = omega (arith, many, width_within fs k h, field_length (get_or fs k u8) (get_or vs k (pos 0))) in
      l ∙ rw (place, o) (write_on 5 stored new old enough ∙ ap (λ (b : List ℕ). written 5 b old) (sym (bytes_next fs vs k e h)))

  -- length, the version v and the fields
  pub put_all : (v size : ℕ) (a b last : List ℕ) → size ≡ 5 + total_of field_width fs
      → a ≡ written 0 (u32_bytes (size - 4)) old → b ≡ written 4 (v ∷ []) a → last ≡ written 5 (bytes_of fs vs) b
      → last ≡ file_of v fs vs ++ drop (5 + total_of field_width fs) old
  unfolding file_of
  put_all v size a b last s ha hb hl =
      let n : size - 4 ≡ 1 + total_of field_width fs = omega arith in
      let many = bytes_long fs vs e in
      let first = u32_bytes (1 + total_of field_width fs) in
      let two : b ≡ written 0 (first ++ (v ∷ [])) old = hb ∙ rw (ha, n) (write_on 0 first (v ∷ []) old (omega arith)) in
      let three : last ≡ written 0 ((first ++ (v ∷ [])) ++ bytes_of fs vs) old = hl ∙ rw two (write_on 0 (first ++ (v ∷ [])) (bytes_of fs vs) old (omega (arith, many))) in
      let place : 0 + length ((first ++ (v ∷ [])) ++ bytes_of fs vs) ≡ 5 + total_of field_width fs = omega (arith, many) in
      three ∙ ap (λ (m : ℕ). file_of v fs vs ++ drop m old) place
