-- A kind of file, a case's or a certificate's: the file of a list of numbers that may be written is valid and reads as those
-- numbers, and a valid file's numbers may be written and give that file.
use mathlib.Core.Path.{◌≡◌, sym, ◌∙◌, ap, subst}
use mathlib.Core.List.{List, [], ◌∷◌, ◌++◌}
use Prim.Native.Nat.{ℕ, ◌+◌, ◌<◌, ◌≤◌}
use native.Mathlib.Omega.{arith}
use lib.Dec.{T, leb, eqb, le→leb, eqb→eq, eqb_refl}
use lib.IntN.{ℤ}
use lib.ListN.{length}
use Rattle.arith.specs.Sums.{total_of}
use Rattle.arith.proofs.Lists.{each_split, each_join}
use Rattle.arith.proofs.AllTests.{and_split, and_join}
use Rattle.market.specs.declared.Refusal.{Refusal}
use Rattle.market.specs.declared.Refusal.TheVariants.{Counts}
use Rattle.market.specs.Bytes.{u8_at, u32_at}
use Rattle.market.specs.Version.{Version, version_of, version_in, known}
use Rattle.market.specs.CaseCheck.{CountsWithin, length_right, version_right, counts_right}
use Rattle.market.specs.Refusals.{Finding, clear, first_of, AllClear}
use Rattle.market.specs.Numbers.{Field, field_width, numbers_at, numbers_fit, file_of, FieldsOf, numbers_of, count_in, counts_in_range, fields_for, file_for, list_grounds}
use Rattle.market.specs.RoundTrips.{AreBytes}
use Rattle.market.proofs.Grounds.{none_holds, all_clear, first_later}
use Rattle.market.proofs.GroundTests.{Test, test, findings, AllPass, tests_pass, tests_clear}
use Rattle.market.proofs.Passed.{list_passed, list_clear}
use Rattle.market.proofs.Ranges.{counts_most}
use Rattle.market.proofs.FieldLists.{numbers_fit_lem}
use Rattle.market.proofs.FileContents.{CountsFirst, by_counts, by_file, file_length, length_field, file_read, file_written, fields_by_counts, range_of_counts, three_numbers}

eq→eqb : {m n : ℕ} → m ≡ n → T (eqb m n)
eq→eqb {m} {n} e = rw e (eqb_refl n)

-- ---- a kind of file
pub record FileKind : Type 0 where
  pub fields : FieldsOf
  pub least : ℕ
  pub size : Version → ℕ → ℕ → ℕ → ℕ
  -- on which its length, version, size are refused, and what else is asked of it
  pub wrong_length : Refusal
  pub wrong_version : Refusal
  pub wrong_size : Refusal
  pub further : List ℕ → List Finding
  pub counts_first : (version : Version) (r z f : ℕ) → CountsFirst (fields version r z f)
  pub fills : (version : Version) (r z f : ℕ) → 5 + total_of field_width (fields version r z f) ≡ size version r z f
  pub at_least : (version : Version) (r z f : ℕ) → least ≤ size version r z f
  pub at_most : (version : Version) {r z f : ℕ} → CountsWithin r z f → size version r z f < 4294967296

module _ (K : FileKind) where
  -- length, version, counts, size
  abbrev file_tests : List ℕ → List Test
  file_tests b =
      test (length_right K.least b) K.wrong_length
      ∷ test (version_right b) K.wrong_version
      ∷ test (by_counts counts_right b) Counts
      ∷ test (eqb (length b) (by_file K.size b)) K.wrong_size
      ∷ []

  -- the grounds of bytes to be read, and of numbers to be written, but for the lent buffer's length
  unfoldable pub file_grounds : List ℕ → List Finding
  file_grounds b = findings (file_tests b) ++ K.further b

  unfoldable pub number_grounds : ℕ → List ℤ → List Finding
  number_grounds v vs = list_grounds K.fields v vs ++ K.further (file_for K.fields v vs)

  -- length, version, counts and size are right
  pub record Right (b : List ℕ) : Type 0 where
    pub says : u32_at b 0 + 4 ≡ length b
    pub version : T (known (u8_at b 4))
    pub counts : T (by_counts counts_right b)
    pub filled : length b ≡ 5 + total_of field_width (by_file K.fields b)

  -- then, and only then, is the file refused on none of the first four grounds
  right_first : (b : List ℕ) → Right b → first_of (file_grounds b) ≡ first_of (K.further b)
  unfolding file_grounds length_right version_right
  right_first b h =
      let filled : length b ≡ by_file K.size b = h.filled ∙ K.fills (version_in b) (u8_at b 5) (u8_at b 6) (u8_at b 7) in
      let long : K.least ≤ length b = omega (arith, K.at_least (version_in b) (u8_at b 5) (u8_at b 6) (u8_at b 7)) in
      let said = and_join (leb K.least (length b)) (eqb (u32_at b 0 + 4) (length b)) (le→leb K.least (length b) long) (eq→eqb h.says) in
      first_later (findings (file_tests b)) (K.further b) (all_clear (findings (file_tests b)) (tests_clear (file_tests b) (said, (h.version, (h.counts, (eq→eqb filled, tt))))))

  both_clear : (b : List ℕ) → AllClear (file_grounds b) → AllClear (findings (file_tests b)) × AllClear (K.further b)
  unfolding file_grounds
  both_clear b h = each_split (λ g. g ≡ clear) (findings (file_tests b)) (K.further b) h

  pub clear_right : (b : List ℕ) → AllClear (file_grounds b) → Right b
  unfolding length_right version_right
  clear_right b h = named (tests_pass (file_tests b) (both_clear b h).0)
    where
      named : AllPass (file_tests b) → Right b
      named (long, (version, (counts, (size, none)))) =
          record {
            says = eqb→eq (u32_at b 0 + 4) (length b) (and_split (leb K.least (length b)) (eqb (u32_at b 0 + 4) (length b)) long).1;
            version = version;
            counts = counts;
            filled = eqb→eq (length b) (by_file K.size b) size ∙ sym (K.fills (version_in b) (u8_at b 5) (u8_at b 6) (u8_at b 7));
          }

  -- numbers that a list may hold: their file of a known version is refused on none of the first four grounds and reads as them
  pub written_first : (v : ℕ) → T (known v) → (vs : List ℤ) → AllClear (list_grounds K.fields v vs) →
      (first_of (file_grounds (file_for K.fields v vs)) ≡ first_of (K.further (file_for K.fields v vs))) × (numbers_of K.fields (file_for K.fields v vs) ≡ vs)
  unfolding fields_for file_for file_of numbers_of
  written_first v is_known vs h =
      let version = version_of v in
      let fs = fields_for K.fields v vs in
      let b = file_of v fs vs in
      let listed = list_passed K.fields v vs h in
      let first : CountsFirst fs = K.counts_first version (count_in vs 0) (count_in vs 1) (count_in vs 2) in
      let fits : T (numbers_fit fs vs) = listed.numbers_fit_lem in
      let read : numbers_at fs b 5 ≡ vs = file_read v fs vs fits in
      let same : fs ≡ by_file K.fields b = ap (fields_for K.fields v) (sym read) ∙ fields_by_counts K.fields v fs first b in
      let counts : T (by_counts counts_right b) = subst T (ap counts_in_range (sym read) ∙ range_of_counts fs first b) listed.counts_in_range in
      let filled : length b ≡ 5 + total_of field_width (by_file K.fields b) = file_length v fs vs fits ∙ ap (λ (gs : List Field). 5 + total_of field_width gs) same in
      let most = K.at_most version (counts_most (u8_at b 5) (u8_at b 6) (u8_at b 7) counts) in
      let total : 1 + total_of field_width fs < 4294967296 = omega (arith, file_length v fs vs fits, K.fills version (u8_at b 5) (u8_at b 6) (u8_at b 7)) in
      let says : u32_at b 0 + 4 ≡ length b = omega (arith, length_field v fs vs total, file_length v fs vs fits) in
      let right : Right b = record { says = says; version = is_known; counts = counts; filled = filled } in
      (right_first b right, ap (λ (gs : List Field). numbers_at gs b 5) (sym same) ∙ read)

  -- numbers that may be written: their file is valid and reads as them
  pub written_valid : (v : ℕ) → T (known v) → (vs : List ℤ) → AllClear (number_grounds v vs) →
      AllClear (file_grounds (file_for K.fields v vs)) × (numbers_of K.fields (file_for K.fields v vs) ≡ vs)
  unfolding number_grounds
  written_valid v is_known vs h =
      let b = file_for K.fields v vs in
      let parts = each_split (λ g. g ≡ clear) (list_grounds K.fields v vs) (K.further b) h in
      let w = written_first v is_known vs parts.0 in
      (none_holds (file_grounds b) (w.0 ∙ all_clear (K.further b) parts.1), w.1)

  -- a valid file's numbers may be written in its version, and give that file
  pub valid_written : (b : List ℕ) → AreBytes b → AllClear (file_grounds b) →
      AllClear (number_grounds (u8_at b 4) (numbers_of K.fields b)) × (file_for K.fields (u8_at b 4) (numbers_of K.fields b) ≡ b)
  unfolding number_grounds file_for numbers_of
  valid_written b bytes h =
      let v = u8_at b 4 in
      let fs = by_file K.fields b in
      let vs = numbers_at fs b 5 in
      let first : CountsFirst fs = K.counts_first (version_of v) (u8_at b 5) (u8_at b 6) (u8_at b 7) in
      let right = clear_right b h in
      let same : fields_for K.fields v vs ≡ fs = fields_by_counts K.fields v fs first b in
      let whole = file_written fs b bytes right.says right.filled in
      let file : file_of v (fields_for K.fields v vs) vs ≡ b = ap (λ (gs : List Field). file_of v gs vs) same ∙ whole in
      let fits : T (numbers_fit (fields_for K.fields v vs) vs) = rw same (numbers_fit_lem fs b bytes 5) in
      let counts : T (counts_in_range vs) = subst T (sym (range_of_counts fs first b)) right.counts in
      let listed = list_clear K.fields v vs (record { three_numbers = le→leb 3 (length vs) (three_numbers fs first b); counts_in_range = counts; numbers_fit_lem = fits }) in
      let more = subst (λ (a : List ℕ). AllClear (K.further a)) (sym file) (both_clear b h).1 in
      (each_join (λ g. g ≡ clear) (list_grounds K.fields v vs) (K.further (file_of v (fields_for K.fields v vs) vs)) listed more, file)
