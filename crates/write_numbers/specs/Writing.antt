-- Writing a file from numbers, of both files at once (01, 'How each operation refuses').
use Rattle.market.specs.declared.Refusal.{Refusal}
use Rattle.std.specs.Prelude.{Result, Ok, List, [], ◌∷◌, ◌++◌, ◌≡◌, ℕ, ◌+◌, ◌≤◌, ℤ, length, take, drop}
use Rattle.arith.specs.Sums.{total_of}
use Rattle.market.specs.declared.Counts.{Counts}
use Rattle.market.specs.declared.Version.{Version}
use Rattle.market.specs.Version.{version_of, written_version}
use Rattle.market.specs.Refusals.{Finding, answered, first_of, buffer_after}
use Rattle.market.specs.Outcome.{room}
use Rattle.market.specs.Numbers.{field_width, count_in, field_grounds, file_for, list_grounds}
use Rattle.fields.specs.declared.File.{File}
use Rattle.fields.specs.declared.File.TheVariants.{Case, Certificate}
use Rattle.fields.specs.Layout.{fields_of}

-- the version that is written, and R, Z and F of a list
abbrev pub listed_counts : List ℤ → Counts
listed_counts vs = record { version = version_of written_version; resources = count_in vs 0; zones = count_in vs 1; flowgates = count_in vs 2 }

-- how many bytes a file has: length and version, then its fields
abbrev pub size_of : File → Version → ℕ → ℕ → ℕ → ℕ
size_of file version r z f = 5 + total_of field_width (fields_of file version r z f)

-- the file that is to be written
abbrev pub file_of_list : File → List ℤ → List ℕ
file_of_list file = file_for (fields_of file) written_version

-- for a case 5, 6, 7 of that file
abbrev pub further_grounds : File → List ℕ → List Finding
further_grounds Case b = field_grounds b
further_grounds Certificate b = []

-- 16, 3, 16, and for a case 5, 6, 7
abbrev pub writing_grounds : File → List ℤ → List Finding
writing_grounds file vs = list_grounds (fields_of file) written_version vs ++ further_grounds file (file_of_list file vs)

-- and 15, with a lent buffer of n bytes
abbrev pub grounds_with15 : File → List ℤ → ℕ → List Finding
grounds_with15 file vs n = writing_grounds file vs ++ (room (length (file_of_list file vs)) n ∷ [])

unfoldable pub write_file : File → List ℤ → ℕ → Result ℕ Refusal
write_file file vs n = answered (length (file_of_list file vs)) (first_of (grounds_with15 file vs n))

unfoldable pub write_file_buffer : File → List ℤ → List ℕ → List ℕ
write_file_buffer file vs old = buffer_after (first_of (grounds_with15 file vs (length old))) (file_of_list file vs) old

-- The n bytes that were written from the numbers vs, as they stand in the buffer, are read back as vs: by a reading, given as
-- its answer and the lent numbers afterwards, into any numbers that are enough.
abbrev pub ReadBack : (List ℕ → ℕ → Result ℕ Refusal) → (List ℕ → List ℤ → List ℤ) → List ℤ → List ℕ → Result ℕ Refusal → Type 0
ReadBack reading readBuffer vs buffer answer =
    (n : ℕ) → answer ≡ Ok n → (out : List ℤ) → length vs ≤ length out
    → (reading (take n buffer) (length out) ≡ Ok (length vs)) × (readBuffer (take n buffer) out ≡ vs ++ drop (length vs) out)
