-- Numbers that were written are read back as themselves, and a valid file's numbers are written as that file's bytes.
use Rattle.std.specs.Prelude.{Ok}
use mathlib.Core.Path.{◌≡◌, refl}
use mathlib.Core.List.{List, [], ◌∷◌, ◌++◌}
use Prim.Native.Nat.{ℕ, ◌≤◌}
use native.Mathlib.Omega.{arith}
use lib.Dec.{leb, le→leb, eqb→eq}
use lib.IntN.{ℤ}
use lib.ListN.{length, take, drop}
use lib.Seq.{take-append_seam}
use Rattle.arith.proofs.Lists.{each_join, each_split}
use Rattle.market.specs.declared.Refusal.TheVariants.{CaseLength, CaseVersion, CaseSize, CertificateLength, CertificateVersion, CertificateSize, BufferShort}
use Rattle.market.specs.Bytes.{u8_at}
use Rattle.market.specs.Version.{Version, written_version}
use Rattle.market.specs.CaseFile.{least_case_size, case_as, case_size}
use Rattle.market.specs.CaseCheck.{case_size_right}
use Rattle.market.specs.Certificate.{least_certificate_size, certificate_size}
use Rattle.market.specs.Refusals.{Finding, clear, first_of, answered, buffer_after, AllClear}
use Rattle.market.specs.Outcome.{case_grounds, room}
use Rattle.market.specs.Numbers.{case_fields, certificate_fields, numbers_of, case_numbers, certificate_numbers, certificate_file_grounds, case_file, field_grounds, read_case_grounds, read_certificate_grounds, read_case, read_certificate, read_case_buffer, read_certificate_buffer, file_for, list_grounds, write_case_grounds, write_certificate_grounds, write_case, write_certificate, write_case_buffer, write_certificate_buffer}
use Rattle.market.specs.RoundTrips.{RoundTrip, RoundTrips}
use Rattle.market.proofs.Grounds.{answered_ok, none_holds, all_clear, clear_unless}
use Rattle.market.proofs.FileSizes.{first_case_count, first_certificate_count, case_fills, certificate_fills, case_size_most, certificate_size_most, largest_case}
use Rattle.market.proofs.FileContents.{CountsFirst}
use Rattle.market.proofs.FileTrips.{FileKind, Right, file_grounds, number_grounds, clear_right, written_first, written_valid, valid_written}

-- ---- an operation that hands over a list unless a ground holds or the lent buffer is too short
module _ {A : Type 0} where
  abbrev pub handing : List Finding → List A → ℕ → List Finding
  handing gs new n = gs ++ (room (length new) n ∷ [])

  -- where none holds, the wanted list is handed over
  handed : (gs : List Finding) (new wanted old : List A) → new ≡ wanted → AllClear gs → length wanted ≤ length old →
      (answered (length new) (first_of (handing gs new (length old))) ≡ Ok (length wanted))
      × (buffer_after (first_of (handing gs new (length old))) new old ≡ wanted ++ drop (length wanted) old)
  handed gs new wanted old e h l =
      let enough = clear_unless (leb (length wanted) (length old)) BufferShort (le→leb (length wanted) (length old) l) in
      let none = all_clear (handing gs wanted (length old)) (each_join (λ g. g ≡ clear) gs (room (length wanted) (length old) ∷ []) h (enough, tt)) in
      rw (e, none) (refl, refl)

  -- the n elements that were handed over
  pub received : (gs : List Finding) (new old : List A) (n : ℕ) → answered (length new) (first_of (handing gs new (length old))) ≡ Ok n →
      AllClear gs × (take n (buffer_after (first_of (handing gs new (length old))) new old) ≡ new)
  received gs new old n e =
      let w = answered_ok (length new) n (first_of (handing gs new (length old))) e in
      let all = none_holds (handing gs new (length old)) w.0 in
      ((each_split (λ g. g ≡ clear) gs (room (length new) (length old) ∷ []) all).0, rw (w.0, ← w.1) (take-append_seam new (drop (length new) old)))

-- ---- a kind of file
module _ (K : FileKind) where
  abbrev numbers : List ℕ → List ℤ
  numbers = numbers_of K.fields

  -- as a file of the version that is written
  abbrev file : List ℤ → List ℕ
  file = file_for K.fields written_version

  abbrev listed : List ℤ → List Finding
  listed = number_grounds K written_version

  -- a valid file is of that version
  its_version : (b : List ℕ) → AllClear (file_grounds K b) → u8_at b 4 ≡ written_version
  its_version b valid = eqb→eq (u8_at b 4) written_version (clear_right K b valid).version

  round_trip : RoundTrip (file_grounds K) numbers
      (λ b n. answered (length (numbers b)) (first_of (handing (file_grounds K b) (numbers b) n)))
      (λ b old. buffer_after (first_of (handing (file_grounds K b) (numbers b) (length old))) (numbers b) old)
      (λ vs n. answered (length (file vs)) (first_of (handing (listed vs) (file vs) n)))
      (λ vs old. buffer_after (first_of (handing (listed vs) (file vs) (length old))) (file vs) old)
  round_trip =
      record {
        written_read = λ vs out n e buffer l.
            let w = received (listed vs) (file vs) out n e in
            let v = written_valid K written_version tt vs w.0 in
            rw w.1 (handed (file_grounds K (file vs)) (numbers (file vs)) vs buffer v.1 v.0 l);
        read_written = λ b bytes valid out l.
            let v = rw (its_version b valid) at (valid_written K b bytes valid) in
            handed (listed (numbers b)) (file (numbers b)) b out v.1 v.0 l;
      }

-- ---- the two kinds
case_counts_first : (version : Version) (r z f : ℕ) → CountsFirst (case_fields version r z f)
unfolding case_fields
case_counts_first version r z f = refl

pub certificate_counts_first : (version : Version) (r z f : ℕ) → CountsFirst (certificate_fields version r z f)
unfolding certificate_fields
certificate_counts_first version r z f = refl

abbrev cases : FileKind
cases =
    record {
      fields = case_fields;
      least = least_case_size;
      size = case_size;
      wrong_length = CaseLength;
      wrong_version = CaseVersion;
      wrong_size = CaseSize;
      further = field_grounds;
      counts_first = case_counts_first;
      fills = case_fills;
      at_least = λ version r z f. omega arith;
      at_most = λ version n. omega (arith, case_size_most version n, largest_case version);
    }

abbrev pub certificates : FileKind
certificates =
    record {
      fields = certificate_fields;
      least = least_certificate_size;
      size = certificate_size;
      wrong_length = CertificateLength;
      wrong_version = CertificateVersion;
      wrong_size = CertificateSize;
      further = λ b. [];
      counts_first = certificate_counts_first;
      fills = certificate_fills;
      at_least = λ version r z f. omega arith;
      at_most = λ version n. omega (arith, certificate_size_most version n, largest_case version);
    }

case_trip : RoundTrip case_grounds case_numbers read_case read_case_buffer write_case write_case_buffer
unfolding case_as case_size_right case_grounds file_grounds number_grounds list_grounds read_case_grounds read_case read_case_buffer write_case_grounds write_case write_case_buffer
case_trip = round_trip cases

-- the file of numbers that a list may hold is refused, if at all, on 5, 6 or 7
pub case_filed : (vs : List ℤ) → AllClear (list_grounds case_fields written_version vs) → (first_of (case_grounds (case_file vs)) ≡ first_of (field_grounds (case_file vs))) × (case_numbers (case_file vs) ≡ vs)
unfolding case_as case_size_right case_grounds file_grounds
case_filed vs h = written_first cases written_version tt vs h

certificate_trip : RoundTrip certificate_file_grounds certificate_numbers read_certificate read_certificate_buffer write_certificate write_certificate_buffer
unfolding certificate_file_grounds file_grounds number_grounds list_grounds read_certificate_grounds read_certificate read_certificate_buffer write_certificate_grounds write_certificate write_certificate_buffer
certificate_trip = round_trip certificates

-- a certificate's file that is refused on none of 8, 9, 3, 11
pub certificate_right : (q : List ℕ) → AllClear (certificate_file_grounds q) → Right certificates q
unfolding certificate_file_grounds file_grounds
certificate_right q h = clear_right certificates q h

pub round_trips : RoundTrips
round_trips =
    record {
      case_file = case_trip;
      certificate_file = certificate_trip;
      case_count = first_case_count;
      certificate_count = first_certificate_count;
      case_fills = case_fills;
      certificate_fills = certificate_fills;
    }
