-- The file of fields and numbers: its length, what its length field says, the numbers read from it, and the counts among them.
use mathlib.Core.Path.{◌≡◌, ◌∙◌, ap}
use mathlib.Core.List.{List, [], ◌∷◌, append-nil}
use Prim.Native.Nat.{ℕ, ◌+◌, ◌<◌, ◌≤◌}
use native.Mathlib.Omega.{arith}
use lib.Dec.{T}
use lib.IntN.{ℤ}
use lib.ListN.{length, drop, take, length-drop}
use lib.Seq.{split_at, take_all}
use Rattle.arith.specs.Sums.{total_of}
use Rattle.arith.proofs.Lists.{each-drop}
use Rattle.market.specs.Bytes.{u8_at, u32_at}
use Rattle.market.specs.Version.{Version, version_of, version_in}
use Rattle.market.specs.CaseCheck.{counts_right}
use Rattle.market.specs.Numbers.{Field, u8, field_width, field_at, u32_bytes, numbers_at, bytes_of, numbers_fit, file_of, FieldsOf, counts_in_range, fields_for}
use Rattle.market.specs.RoundTrips.{AreBytes}
use Rattle.market.proofs.FieldBytes.{u32_value, u32_bytes_lem}
use Rattle.market.proofs.FieldLists.{numbers_length, numbers_part, bytes_length, numbers_read, numbers_written}

pub file_length : (v : ℕ) (fs : List Field) (vs : List ℤ) → T (numbers_fit fs vs) → length (file_of v fs vs) ≡ 5 + total_of field_width fs
unfolding file_of
file_length v fs vs t = omega (arith, bytes_length fs vs t)

pub length_field : (v : ℕ) (fs : List Field) (vs : List ℤ) → 1 + total_of field_width fs < 4294967296 → u32_at (file_of v fs vs) 0 ≡ 1 + total_of field_width fs
unfolding file_of
length_field v fs vs l = u32_value (1 + total_of field_width fs) l

pub file_read : (v : ℕ) (fs : List Field) (vs : List ℤ) → T (numbers_fit fs vs) → numbers_at fs (file_of v fs vs) 5 ≡ vs
unfolding file_of
file_read v fs vs t = numbers_part fs (file_of v fs vs) 5 0 ∙ (rw (append-nil (bytes_of fs vs)) at (numbers_read fs vs t []))

-- a file whose length is right is made of its version and its numbers
pub file_written : (fs : List Field) (b : List ℕ) → AreBytes b → u32_at b 0 + 4 ≡ length b → length b ≡ 5 + total_of field_width fs → file_of (u8_at b 4) fs (numbers_at fs b 5) ≡ b
unfolding file_of
file_written fs b h l s =
    let n = total_of field_width fs in
    let same : 1 + n ≡ u32_at b 0 = omega arith in
    let begins : u32_bytes (1 + n) ≡ take 4 b = ap u32_bytes same ∙ u32_bytes_lem b h (omega arith) in
    let back = numbers_written fs (drop 5 b) (each-drop (λ x. x < 256) 5 b h) (omega (arith, length-drop 5 b)) in
    let all = take_all n (drop 5 b) (omega (arith, length-drop 5 b)) in
    cc (numbers_part fs b 5 0, split_at b 4 0 (omega arith))

-- ---- R, Z and F come first
abbrev pub CountsFirst : List Field → Type 0
CountsFirst fs = fs ≡ u8 ∷ u8 ∷ u8 ∷ drop 3 fs

-- of the counts that stand in a file
module _ {A : Type 0} where
  abbrev pub by_counts : (ℕ → ℕ → ℕ → A) → List ℕ → A
  by_counts g b = g (u8_at b 5) (u8_at b 6) (u8_at b 7)

  -- and of its version
  abbrev pub by_file : (Version → ℕ → ℕ → ℕ → A) → List ℕ → A
  by_file g b = by_counts (g (version_in b)) b

-- they are the first three of its numbers
pub fields_by_counts : (fields : FieldsOf) (v : ℕ) (fs : List Field) → CountsFirst fs → (b : List ℕ) → fields_for fields v (numbers_at fs b 5) ≡ by_counts (fields (version_of v)) b
unfolding numbers_at field_at fields_for
fields_by_counts fields v fs e b = ap (λ (gs : List Field). fields_for fields v (numbers_at gs b 5)) e

pub range_of_counts : (fs : List Field) → CountsFirst fs → (b : List ℕ) → counts_in_range (numbers_at fs b 5) ≡ by_counts counts_right b
unfolding numbers_at field_at counts_in_range counts_right
range_of_counts fs e b = ap (λ (gs : List Field). counts_in_range (numbers_at gs b 5)) e

pub three_numbers : (fs : List Field) → CountsFirst fs → (b : List ℕ) → 3 ≤ length (numbers_at fs b 5)
three_numbers fs e b = omega (arith, ap length e, numbers_length fs b 5)
