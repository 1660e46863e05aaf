-- The answer of reading and the lent buffer afterwards, where the other grounds have decided; and that what was read is
-- written back as the file.
use Rattle.std.specs.Prelude.{Result, Ok, Err}
use mathlib.Core.Path.{◌≡◌, refl, sym, ◌∙◌, ap}
use mathlib.Core.List.{List, [], ◌∷◌, ◌++◌}
use Prim.Native.Nat.{ℕ, suc, ◌<◌, ◌≤◌}
use native.Mathlib.Omega.{arith}
use lib.IntN.{ℤ}
use lib.ListN.{length, drop, get_or}
use Rattle.market.specs.declared.Refusal.{Refusal}
use Rattle.market.specs.declared.Refusal.TheVariants.{BufferShort}
use Rattle.market.specs.declared.Counts.{Counts}
use Rattle.market.specs.CaseCheck.{CountsWithin}
use Rattle.market.specs.Refusals.{Finding, clear, holds, answered, first_of, buffer_after, AllClear}
use Rattle.arith.specs.Sums.{total_of}
use Rattle.market.specs.declared.Version.{Version}
use Rattle.market.specs.Numbers.{Field, u8, u16, u32, i16, i32, field_width, case_fields, certificate_fields, numbers_at, numbers_of, read_case, read_case_grounds, read_case_buffer, read_certificate, read_certificate_grounds, read_certificate_buffer, write_case, write_case_buffer, write_certificate, write_certificate_buffer}
use Rattle.market.specs.RoundTrips.{AreBytes}
use Rattle.market.proofs.FieldLists.{numbers_length}
use Rattle.market.proofs.FileSizes.{case_fills, certificate_fills, case_size_most, certificate_size_most, largest_case}
use Rattle.market.proofs.LentBuffer.{refused_before, too_short, long_enough}
use Rattle.market.proofs.RoundTrips.{received, round_trips}
use Rattle.case_check.proofs.Passing.{refused_holds}
use Rattle.fields.specs.declared.File.{File}
use Rattle.fields.specs.declared.File.TheVariants.{Case, Certificate}
use Rattle.fields.specs.Layout.{fields_of}
use Rattle.read_numbers.specs.Reading.{filed_counts, reading_grounds, grounds_with15, read_file, read_file_buffer, WrittenBack}

-- ---- how many numbers
-- the fields of a file by its counts
abbrev pub fields_by : File → Counts → List Field
fields_by file n = fields_of file n.version n.resources n.zones n.flowgates

-- no field is without a byte
some_width : (field : Field) → 1 ≤ field_width field
some_width u8 = omega arith
some_width u16 = omega arith
some_width u32 = omega arith
some_width i16 = omega arith
some_width i32 = omega arith

fields_most : (fields : List Field) → length fields ≤ total_of field_width fields
unfolding total_of
fields_most [] = omega arith
fields_most (field ∷ fields) = omega (arith, some_width field, fields_most fields)

pub count_small : (file : File) (version : Version) {r z f : ℕ} → CountsWithin r z f → length (fields_of file version r z f) < 4294967296
count_small Case version {r} {z} {f} n = omega (arith, fields_most (case_fields version r z f), case_fills version r z f, case_size_most version n, largest_case version)
count_small Certificate version {r} {z} {f} n = omega (arith, fields_most (certificate_fields version r z f), certificate_fills version r z f, certificate_size_most version n, largest_case version)

module _ (file : File) (b : List ℕ) (old : List ℤ) where
  -- the answer and the buffer afterwards
  abbrev Read : (Result ℕ Refusal) → List ℤ → Type 0
  Read r out = (r ≡ read_file file b (length old)) × (out ≡ read_file_buffer file b old)

  by_finding : (f : Finding) → first_of (grounds_with15 file b (length old)) ≡ f → Read (answered (length (numbers_of (fields_of file) b)) f) (buffer_after f (numbers_of (fields_of file) b) old)
  unfolding read_file read_file_buffer
  by_finding f e = rw e (refl, refl)

  numbers_many : (n : Counts) → n ≡ filed_counts b → length (numbers_of (fields_of file) b) ≡ length (fields_by file n)
  unfolding numbers_of
  numbers_many n e = numbers_length (fields_by file (filed_counts b)) b 5 ∙ ap (λ (m : Counts). length (fields_by file m)) (sym e)

  pub read_refused : (m : Counts) (w : Refusal) → answered m (first_of (reading_grounds file b)) ≡ Err w → Read (Err w) old
  read_refused m w h = by_finding (holds w) (refused_before (reading_grounds file b) (length (numbers_of (fields_of file) b)) (length old) w (refused_holds m w (first_of (reading_grounds file b)) h))

  module _ (n : Counts) (e : n ≡ filed_counts b) (h : first_of (reading_grounds file b) ≡ clear) where
    pub read_short : length old < length (fields_by file n) → Read (Err BufferShort) old
    read_short l = by_finding (holds BufferShort) (too_short (reading_grounds file b) (length (numbers_of (fields_of file) b)) (length old) h (omega (arith, numbers_many n e)))

    pub read_whole : (out : List ℤ) → length (fields_by file n) ≤ length old → out ≡ numbers_at (fields_by file n) b 5 ++ drop (length (fields_by file n)) old → Read (Ok (length (fields_by file n))) out
    unfolding numbers_of
    read_whole out l k =
        let many = numbers_many n e in
        let r = by_finding clear (long_enough (reading_grounds file b) (length (numbers_of (fields_of file) b)) (length old) h (omega (arith, many))) in
        (ap Ok (sym many) ∙ r.0, k ∙ rw (← many, e) r.1)

-- ---- written back
-- what a slice of u8 holds, of which each element is known to be below 256
pub bytes_of : (b : List ℕ) → ((i : ℕ) → get_or b i 0 < 256) → AreBytes b
bytes_of [] h = tt
bytes_of (x ∷ b) h = (h 0, bytes_of b (λ i. h (suc i)))

written_back : (file : File) (writing : List ℤ → ℕ → Result ℕ Refusal) (writeBuffer : List ℤ → List ℕ → List ℕ)
    → ((b : List ℕ) → AreBytes b → AllClear (reading_grounds file b) → (out : List ℕ) → length b ≤ length out →
    (writing (numbers_of (fields_of file) b) (length out) ≡ Ok (length b)) × (writeBuffer (numbers_of (fields_of file) b) out ≡ b ++ drop (length b) out))
    → (b : List ℕ) (old out : List ℤ) (r : Result ℕ Refusal) → AreBytes b → r ≡ read_file file b (length old) → out ≡ read_file_buffer file b old → WrittenBack writing writeBuffer b out r
unfolding read_file read_file_buffer
written_back file writing writeBuffer trip b old out r bytes e k n w lent l =
    let g = received (reading_grounds file b) (numbers_of (fields_of file) b) old n (sym e ∙ w) in
    rw (k, g.1) (trip b bytes g.0 lent l)

-- ---- the two operations
pub case_read : (b : List ℕ) (old out : List ℤ) (r : Result ℕ Refusal) → AreBytes b → (r ≡ read_file Case b (length old)) × (out ≡ read_file_buffer Case b old)
    → (r ≡ read_case b (length old)) × (out ≡ read_case_buffer b old) × WrittenBack write_case write_case_buffer b out r
unfolding read_file read_file_buffer read_case read_case_grounds read_case_buffer
case_read b old out r bytes h = (h.0, h.1, written_back Case write_case write_case_buffer round_trips.case_file.read_written b old out r bytes h.0 h.1)

pub certificate_read : (q : List ℕ) (old out : List ℤ) (r : Result ℕ Refusal) → AreBytes q → (r ≡ read_file Certificate q (length old)) × (out ≡ read_file_buffer Certificate q old)
    → (r ≡ read_certificate q (length old)) × (out ≡ read_certificate_buffer q old) × WrittenBack write_certificate write_certificate_buffer q out r
unfolding read_file read_file_buffer read_certificate read_certificate_grounds read_certificate_buffer
certificate_read q old out r bytes h = (h.0, h.1, written_back Certificate write_certificate write_certificate_buffer round_trips.certificate_file.read_written q old out r bytes h.0 h.1)
