-- A list of fields: the bytes of numbers that fit are read back as those numbers, and the numbers that bytes stand for fit
-- and are written as those bytes.
use mathlib.Core.Path.{◌≡◌, refl}
use mathlib.Core.List.{List, [], ◌∷◌, ◌++◌, append_assoc}
use Prim.Native.Nat.{ℕ, ◌+◌, ◌<◌, ◌≤◌}
use native.Mathlib.Nat.{add_assoc, add_comm}
use native.Mathlib.Omega.{arith}
use lib.Dec.{T}
use lib.IntN.{ℤ}
use lib.ListN.{length, take, drop, length-append, length-drop}
use lib.Seq.{drop_at, take-add}
use Rattle.arith.specs.Sums.{total_of}
use Rattle.arith.proofs.Lists.{each-drop}
use Rattle.arith.proofs.AllTests.{and_split, and_join}
use Rattle.market.specs.Bytes.{within_ℤ}
use Rattle.market.specs.Numbers.{Field, field_width, field_low, field_high, field_at, field_bytes, numbers_at, bytes_of, numbers_fit}
use Rattle.market.specs.RoundTrips.{AreBytes}
use Rattle.market.proofs.FieldBytes.{field_length, field_part, field_read, field_fits, field_written}

pub numbers_length : (fs : List Field) (b : List ℕ) (p : ℕ) → length (numbers_at fs b p) ≡ length fs
unfolding numbers_at
numbers_length [] b p = refl
numbers_length (f ∷ fs) b p = rw (numbers_length fs b (p + field_width f))

-- numbers are read in the same way from a part of the file
pub numbers_part : (fs : List Field) (b : List ℕ) (p q : ℕ) → numbers_at fs b (p + q) ≡ numbers_at fs (drop p b) q
unfolding numbers_at
numbers_part [] b p q = refl
numbers_part (f ∷ fs) b p q = rw (field_part f b p q, add_assoc p q (field_width f), numbers_part fs b p (q + field_width f))

-- the numbers after the first field's are those of the rest of the file
numbers_after : (f : Field) (fs : List Field) (b : List ℕ) → numbers_at fs b (0 + field_width f) ≡ numbers_at fs (drop (field_width f) b) 0
numbers_after f fs b = rw (add_comm 0 (field_width f)) (numbers_part fs b (field_width f) 0)

-- ---- numbers that fit
pub bytes_length : (fs : List Field) (vs : List ℤ) → T (numbers_fit fs vs) → length (bytes_of fs vs) ≡ total_of field_width fs
unfolding numbers_fit bytes_of total_of
bytes_length [] [] t = refl
bytes_length [] (v ∷ vs) t = absurd t
bytes_length (f ∷ fs) [] t = absurd t
bytes_length (f ∷ fs) (v ∷ vs) t =
    let fit = and_split (within_ℤ (field_low f) (field_high f) v) (numbers_fit fs vs) t in
    rw (length-append (field_bytes f v) (bytes_of fs vs), field_length f v, bytes_length fs vs fit.1)

-- whatever bytes follow
pub numbers_read : (fs : List Field) (vs : List ℤ) → T (numbers_fit fs vs) → (rest : List ℕ) → numbers_at fs (bytes_of fs vs ++ rest) 0 ≡ vs
unfolding numbers_fit bytes_of numbers_at
numbers_read [] [] t rest = refl
numbers_read [] (v ∷ vs) t rest = absurd t
numbers_read (f ∷ fs) [] t rest = absurd t
numbers_read (f ∷ fs) (v ∷ vs) t rest =
    let fit = and_split (within_ℤ (field_low f) (field_high f) v) (numbers_fit fs vs) t in
    let tail = bytes_of fs vs ++ rest in
    rw (append_assoc, numbers_after f fs, field_read f v fit.0 tail, drop_at (field_bytes f v) tail (field_width f) (field_length f v), numbers_read fs vs fit.1 rest)

-- ---- numbers that bytes stand for
pub numbers_fit_lem : (fs : List Field) (b : List ℕ) → AreBytes b → (p : ℕ) → T (numbers_fit fs (numbers_at fs b p))
unfolding numbers_fit numbers_at
numbers_fit_lem [] b h p = tt
numbers_fit_lem (f ∷ fs) b h p =
    and_join (within_ℤ (field_low f) (field_high f) (field_at f b p)) (numbers_fit fs (numbers_at fs b (p + field_width f))) (field_fits f b h p) (numbers_fit_lem fs b h (p + field_width f))

pub numbers_written : (fs : List Field) (b : List ℕ) → AreBytes b → total_of field_width fs ≤ length b → bytes_of fs (numbers_at fs b 0) ≡ take (total_of field_width fs) b
unfolding bytes_of numbers_at total_of
numbers_written [] b h l = refl
numbers_written (f ∷ fs) b h l =
    let w = field_width f in
    let first : field_width f ≤ length b = omega arith in
    let later : total_of field_width fs ≤ length (drop w b) = omega (arith, length-drop w b) in
    rw (numbers_after f fs, field_written f b h first, numbers_written fs (drop w b) (each-drop (λ v. v < 256) w b h) later, take-add)
