-- The answer of writing and the lent buffer afterwards, where the other grounds have decided; and that what was written is
-- read back as the numbers.
use Rattle.std.specs.Prelude.{Result, Ok, Err}
use mathlib.Core.Path.{◌≡◌, refl, sym, ◌∙◌, ap}
use mathlib.Core.List.{List, ◌++◌, append-nil}
use Prim.Native.Nat.{ℕ, ◌+◌, ◌<◌, ◌≤◌}
use native.Mathlib.Omega.{arith}
use lib.IntN.{ℤ}
use lib.ListN.{length, take, drop, drop_of_length-le}
use Rattle.std.proofs.Math.Nat.{min-le_left}
use Rattle.std.proofs.lemmas.List.{length-take}
use Rattle.arith.specs.Sums.{total_of}
use Rattle.market.specs.declared.Refusal.{Refusal}
use Rattle.market.specs.declared.Refusal.TheVariants.{BufferShort}
use Rattle.market.specs.declared.Version.{Version}
use Rattle.market.specs.Version.{written_version}
use Rattle.market.specs.Refusals.{Finding, clear, holds, answered, first_of, buffer_after}
use Rattle.market.specs.Numbers.{Field, field_width, file_of, fields_for, file_for, list_grounds, read_case, read_case_buffer, read_certificate, read_certificate_buffer, write_case, write_case_grounds, write_case_buffer, write_certificate, write_certificate_grounds, write_certificate_buffer}
use Rattle.market.proofs.FileSizes.{case_fills, certificate_fills, case_size_most, certificate_size_most}
use Rattle.market.proofs.LentBuffer.{refused_before, too_short, long_enough}
use Rattle.market.proofs.RoundTrips.{round_trips}
use Rattle.fields.specs.declared.File.{File}
use Rattle.fields.specs.declared.File.TheVariants.{Case, Certificate}
use Rattle.fields.specs.Layout.{fields_of}
use Rattle.write_numbers.specs.Listed.{Listed}
use Rattle.write_numbers.specs.Writing.{listed_counts, size_of, file_of_list, writing_grounds, grounds_with15, write_file, write_file_buffer, ReadBack}
use Rattle.case_check.proofs.Passing.{refused_holds}
use Rattle.market.specs.declared.Counts.{Counts}
use Rattle.write_numbers.proofs.Stages.{passed}
use Rattle.write_numbers.proofs.Walked.{fit_length, bytes_long}

-- ---- the file of a list past 16, 3, 16
file_long : (v : ℕ) (fs : List Field) (vs : List ℤ) → length fs ≡ length vs → length (file_of v fs vs) ≡ 5 + total_of field_width fs
unfolding file_of
file_long v fs vs e = omega (arith, bytes_long fs vs e)

module _ (file : File) (vs : List ℤ) (version : Version) (r z f : ℕ) (h : Listed file vs version r z f) where
  file_is : file_of written_version (fields_of file version r z f) vs ≡ file_of_list file vs
  unfolding file_for fields_for
  file_is = rw (h.version_is, h.resources, h.zones, h.flowgates)

  file_size : length (file_of_list file vs) ≡ size_of file version r z f
  file_size = ap length (sym file_is) ∙ file_long written_version (fields_of file version r z f) vs (fit_length (fields_of file version r z f) vs h.fit)

-- in the first bytes of a buffer, as many as it has
pub file_whole : (file : File) (vs : List ℤ) (version : Version) (r z f : ℕ) → Listed file vs version r z f → (size : ℕ) (old out : List ℕ) → out ≡ file_of written_version (fields_of file version r z f) vs ++ drop size (take size old) → out ≡ file_of_list file vs
file_whole file vs version r z f h size old out e = let l : length (take size old) ≤ size = omega (arith, length-take size old, min-le_left size (length old)) in e ∙ rw (drop_of_length-le (take size old) {i = size} l, append-nil) (file_is file vs version r z f h)

pub ruleset file_sizes = (case_fills, certificate_fills, case_size_most, certificate_size_most)

-- ---- the answer and the buffer afterwards
module _ (file : File) (vs : List ℤ) (old : List ℕ) where
  abbrev Wrote : (Result ℕ Refusal) → List ℕ → Type 0
  Wrote r out = (r ≡ write_file file vs (length old)) × (out ≡ write_file_buffer file vs old)

  by_finding : (f : Finding) → first_of (grounds_with15 file vs (length old)) ≡ f → Wrote (answered (length (file_of_list file vs)) f) (buffer_after f (file_of_list file vs) old)
  unfolding write_file write_file_buffer
  by_finding f e = rw e (refl, refl)

  pub write_refused : (w : Refusal) → answered (listed_counts vs) (first_of (writing_grounds file vs)) ≡ Err w → Wrote (Err w) old
  write_refused w h = by_finding (holds w) (refused_before (writing_grounds file vs) (length (file_of_list file vs)) (length old) w (refused_holds (listed_counts vs) w (first_of (writing_grounds file vs)) h))

  module _ (n : Counts) (c : first_of (writing_grounds file vs) ≡ clear) (e : n ≡ listed_counts vs) where
    listed_n : Listed file vs n.version n.resources n.zones n.flowgates
    listed_n = passed file vs n c e

    pub write_short : length old < size_of file n.version n.resources n.zones n.flowgates → Wrote (Err BufferShort) old
    write_short l = by_finding (holds BufferShort) (too_short (writing_grounds file vs) (length (file_of_list file vs)) (length old) c (omega (arith, file_size file vs n.version n.resources n.zones n.flowgates listed_n)))

    pub write_whole : (out : List ℕ) → size_of file n.version n.resources n.zones n.flowgates ≤ length old → out ≡ file_of written_version (fields_of file n.version n.resources n.zones n.flowgates) vs ++ drop (size_of file n.version n.resources n.zones n.flowgates) old → Wrote (Ok (size_of file n.version n.resources n.zones n.flowgates)) out
    write_whole out l k =
        let long = file_size file vs n.version n.resources n.zones n.flowgates listed_n in
        let w = by_finding clear (long_enough (writing_grounds file vs) (length (file_of_list file vs)) (length old) c (omega (arith, long))) in
        (ap Ok (sym long) ∙ w.0, k ∙ rw (file_is file vs n.version n.resources n.zones n.flowgates listed_n, ← long) w.1)

-- ---- the two operations, and what is read back
pub case_written : (vs : List ℤ) (old out : List ℕ) (r : Result ℕ Refusal) → (r ≡ write_file Case vs (length old)) × (out ≡ write_file_buffer Case vs old)
    → (r ≡ write_case vs (length old)) × (out ≡ write_case_buffer vs old) × ReadBack read_case read_case_buffer vs out r
unfolding write_file write_file_buffer list_grounds write_case write_case_grounds write_case_buffer
case_written vs old out r h = (h.0, h.1, λ n w lent l. rw h.1 (round_trips.case_file.written_read vs old n (sym h.0 ∙ w) lent l))

pub certificate_written : (vs : List ℤ) (old out : List ℕ) (r : Result ℕ Refusal) → (r ≡ write_file Certificate vs (length old)) × (out ≡ write_file_buffer Certificate vs old)
    → (r ≡ write_certificate vs (length old)) × (out ≡ write_certificate_buffer vs old) × ReadBack read_certificate read_certificate_buffer vs out r
unfolding write_file write_file_buffer list_grounds write_certificate write_certificate_grounds write_certificate_buffer
certificate_written vs old out r h = (h.0, h.1, λ n w lent l. rw h.1 (round_trips.certificate_file.written_read vs old n (sym h.0 ∙ w) lent l))
