-- Numbers that were written are read back as themselves, and a valid file's numbers are written as that file's bytes
-- (demand 2), of the definitions of the four operations.
use Rattle.market.specs.declared.Refusal.{Refusal}
use Rattle.std.specs.Prelude.{Result, Ok}
use Rattle.std.specs.Prelude.{List, ◌++◌, ◌≡◌, ℕ, ◌+◌, ◌*◌, ◌<◌, ◌≤◌, length, take, drop, ℤ}
use Rattle.arith.specs.Sums.{Each, total_of}
use Rattle.market.specs.Version.{Version, first}
use Rattle.market.specs.CaseFile.{case_size}
use Rattle.market.specs.Certificate.{certificate_size}
use Rattle.market.specs.Refusals.{Finding, AllClear}
use Rattle.market.specs.Outcome.{case_grounds}
use Rattle.market.specs.Numbers.{field_width, case_fields, certificate_fields, case_numbers, certificate_numbers, certificate_file_grounds, read_case, read_case_buffer, read_certificate, read_certificate_buffer, write_case, write_case_buffer, write_certificate, write_certificate_buffer}

abbrev pub AreBytes : List ℕ → Type 0
AreBytes b = Each (λ v. v < 256) b

-- of a file's reading and writing, each as its answer and the lent buffer afterwards
pub record RoundTrip
    (valid : List ℕ → List Finding) (numbers : List ℕ → List ℤ)
    (reading : List ℕ → ℕ → Result ℕ Refusal) (readBuffer : List ℕ → List ℤ → List ℤ)
    (writing : List ℤ → ℕ → Result ℕ Refusal) (writeBuffer : List ℤ → List ℕ → List ℕ) : Type 0 where
  -- the n bytes that were written, read into a buffer that is long enough
  pub written_read : (vs : List ℤ) (out : List ℕ) (n : ℕ) → writing vs (length out) ≡ Ok n → (buffer : List ℤ) → length vs ≤ length buffer →
      (reading (take n (writeBuffer vs out)) (length buffer) ≡ Ok (length vs))
      × (readBuffer (take n (writeBuffer vs out)) buffer ≡ vs ++ drop (length vs) buffer)
  -- a valid file's numbers, written into a buffer that is long enough
  pub read_written : (b : List ℕ) → AreBytes b → AllClear (valid b) → (out : List ℕ) → length b ≤ length out →
      (writing (numbers b) (length out) ≡ Ok (length b))
      × (writeBuffer (numbers b) out ≡ b ++ drop (length b) out)

pub record RoundTrips : Type 0 where
  pub case_file : RoundTrip case_grounds case_numbers read_case read_case_buffer write_case write_case_buffer
  pub certificate_file : RoundTrip certificate_file_grounds certificate_numbers read_certificate read_certificate_buffer write_certificate write_certificate_buffer
  -- how many numbers a file of version 1 has, and that the fields fill the file
  pub case_count : (r z f : ℕ) → length (case_fields first r z f) ≡ 48 + 4 * z + 43 * r + f * (r + 1)
  pub certificate_count : (r z f : ℕ) → length (certificate_fields first r z f) ≡ 12 + 4 * z + f + 10 * r
  pub case_fills : (version : Version) (r z f : ℕ) → 5 + total_of field_width (case_fields version r z f) ≡ case_size version r z f
  pub certificate_fills : (version : Version) (r z f : ℕ) → 5 + total_of field_width (certificate_fields version r z f) ≡ certificate_size version r z f
