-- Reading a file into numbers, of both files at once (01, 'How each operation refuses').
use Rattle.market.specs.declared.Refusal.{Refusal}
use Rattle.std.specs.Prelude.{Result, Ok, List, [], ◌∷◌, ◌++◌, ◌≡◌, ℕ, ◌≤◌, ℤ, length, take, drop}
use Rattle.market.specs.declared.Counts.{Counts}
use Rattle.market.specs.Version.{version_in}
use Rattle.market.specs.Bytes.{u8_at}
use Rattle.market.specs.Refusals.{Finding, answered, first_of, buffer_after}
use Rattle.market.specs.Outcome.{case_grounds, room}
use Rattle.market.specs.Numbers.{numbers_of, certificate_file_grounds}
use Rattle.fields.specs.declared.File.{File}
use Rattle.fields.specs.declared.File.TheVariants.{Case, Certificate}
use Rattle.fields.specs.Layout.{fields_of}

-- the version, R, Z and F of either file
abbrev pub filed_counts : List ℕ → Counts
filed_counts b = record { version = version_in b; resources = u8_at b 5; zones = u8_at b 6; flowgates = u8_at b 7 }

-- a case 1 to 7, a certificate 8, 9, 3, 11
abbrev pub reading_grounds : File → List ℕ → List Finding
reading_grounds Case = case_grounds
reading_grounds Certificate = certificate_file_grounds

-- and 15, with a lent buffer of n numbers
abbrev pub grounds_with15 : File → List ℕ → ℕ → List Finding
grounds_with15 file b n = reading_grounds file b ++ (room (length (numbers_of (fields_of file) b)) n ∷ [])

unfoldable pub read_file : File → List ℕ → ℕ → Result ℕ Refusal
read_file file b n = answered (length (numbers_of (fields_of file) b)) (first_of (grounds_with15 file b n))

unfoldable pub read_file_buffer : File → List ℕ → List ℤ → List ℤ
read_file_buffer file b old = buffer_after (first_of (grounds_with15 file b (length old))) (numbers_of (fields_of file) b) old

-- The n numbers that were read from the bytes b, as they stand in the buffer, are written back as b: by a writing, given as
-- its answer and the lent bytes afterwards, into any bytes that are enough.
abbrev pub WrittenBack : (List ℤ → ℕ → Result ℕ Refusal) → (List ℤ → List ℕ → List ℕ) → List ℕ → List ℤ → Result ℕ Refusal → Type 0
WrittenBack writing writeBuffer b buffer answer =
    (n : ℕ) → answer ≡ Ok n → (out : List ℕ) → length b ≤ length out
    → (writing (take n buffer) (length out) ≡ Ok (length b)) × (writeBuffer (take n buffer) out ≡ b ++ drop (length b) out)
