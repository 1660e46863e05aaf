-- The grounds of writing but 15: what a list past its own is, and that those of its case file are 5, 6 and 7.
use Rattle.std.specs.Prelude.{Ok, Err}
use mathlib.Core.Path.{◌≡◌, refl, sym, ◌∙◌, ap, subst}
use mathlib.Core.Bool.{true, ◌&&◌}
use mathlib.Core.List.{List}
use Prim.Native.Nat.{ℕ, ◌≤◌}
use native.Mathlib.Omega.{arith}
use lib.Dec.{T}
use lib.IntN.{ℤ, pos, negsuc, nat_abs}
use lib.ListN.{get_or}
use lib.Signed.{le_z}
use borrow.Author.Tests.{le-leb}
use Rattle.arith.proofs.AllTests.{and_split}
use Rattle.arith.proofs.Order.{zl}
use Rattle.market.specs.declared.Refusal.{Refusal}
use Rattle.market.specs.declared.Counts.{Counts}
use Rattle.market.specs.Bytes.{u8_at, within_ℤ}
use Rattle.market.specs.Version.{version_of, written_version}
use Rattle.market.specs.CaseFile.{case_of, case_as}
use Rattle.market.specs.CaseCheck.{most_resources, most_zones, most_flowgates, CountsWithin}
use Rattle.market.specs.Records.{counts_in}
use Rattle.market.specs.Refusals.{clear, first_of}
use Rattle.market.specs.Outcome.{case_grounds}
use Rattle.market.specs.Numbers.{field_at, numbers_at, numbers_fit, case_fields, numbers_of, case_numbers, count_in, counts_in_range, fields_for, file_of, file_for, case_file, list_grounds}
use Rattle.market.proofs.Grounds.{none_holds, first_later, first_earlier, earlier_clear}
use Rattle.market.proofs.Passed.{list_passed as tests-passed}
use Rattle.market.proofs.RoundTrips.{case_filed}
use Rattle.market.specs.Refusals.{answered}
use Rattle.case_check.proofs.Passing.{passed_clear, refused_holds}
use Rattle.fields.specs.declared.File.{File}
use Rattle.fields.specs.declared.File.TheVariants.{Case}
use Rattle.fields.specs.Layout.{fields_of}
use Rattle.write_numbers.specs.Listed.{Listed}
use Rattle.write_numbers.specs.Writing.{listed_counts, writing_grounds, further_grounds}
use Rattle.write_numbers.proofs.Fitting.{is_true, to_high}

-- ---- R, Z and F
count_from : (low high : ℕ) (v : ℤ) → T (within_ℤ (pos low) (pos high) v) → (le_z (pos 0) v ≡ true) × (nat_abs v ≤ high)
count_from low high (pos n) t = let h = to_high (pos low) (pos high) (pos n) (is_true (within_ℤ (pos low) (pos high) (pos n)) t) in (le-leb 0 n (omega arith), omega zl)
count_from low high (negsuc n) t = absurd (and_split (le_z (pos low) (negsuc n)) (le_z (negsuc n) (pos high)) t).0

-- counts in range: from 0 on, and at most so many
pub counts_from : (vs : List ℤ) → counts_in_range vs ≡ true
    → ((le_z (pos 0) (get_or vs 0 (pos 0)) ≡ true) × (count_in vs 0 ≤ most_resources)) × ((le_z (pos 0) (get_or vs 1 (pos 0)) ≡ true) × (count_in vs 1 ≤ most_zones)) × ((le_z (pos 0) (get_or vs 2 (pos 0)) ≡ true) × (count_in vs 2 ≤ most_flowgates))
unfolding counts_in_range
counts_from vs e =
    let r = within_ℤ (pos 1) (pos most_resources) (get_or vs 0 (pos 0)) in
    let z = within_ℤ (pos 1) (pos most_zones) (get_or vs 1 (pos 0)) in
    let f = within_ℤ (pos 0) (pos most_flowgates) (get_or vs 2 (pos 0)) in
    let all = and_split (r && z) f (subst T (sym e) tt) in
    let two = and_split r z all.0 in
    (count_from 1 most_resources (get_or vs 0 (pos 0)) two.0, count_from 1 most_zones (get_or vs 1 (pos 0)) two.1, count_from 0 most_flowgates (get_or vs 2 (pos 0)) all.1)

pub counts_within : (vs : List ℤ) → counts_in_range vs ≡ true → CountsWithin (count_in vs 0) (count_in vs 1) (count_in vs 2)
counts_within vs e = let m = counts_from vs e in record { most_resources = m.0.1; most_zones = m.1.1; most_flowgates = m.2.1 }

-- ---- a list past them
listed : (file : File) (vs : List ℤ) → first_of (list_grounds (fields_of file) written_version vs) ≡ clear → Listed file vs (version_of written_version) (count_in vs 0) (count_in vs 1) (count_in vs 2)
unfolding fields_for
listed file vs h =
    let passed = tests-passed (fields_of file) written_version vs (none_holds (list_grounds (fields_of file) written_version vs) h) in
    record {
      version_is = refl;
      resources = refl;
      zones = refl;
      flowgates = refl;
      counts = counts_within vs (is_true (counts_in_range vs) passed.counts_in_range);
      fit = is_true (numbers_fit (fields_for (fields_of file) written_version vs) vs) passed.numbers_fit_lem;
      none_holds = h;
    }

-- ---- what the stages' answers tell
module _ (file : File) (vs : List ℤ) where
  pub list_passed : (n : Counts) → answered (listed_counts vs) (first_of (list_grounds (fields_of file) written_version vs)) ≡ Ok n → Listed file vs n.version n.resources n.zones n.flowgates
  list_passed n h =
      let p = passed_clear (listed_counts vs) n (first_of (list_grounds (fields_of file) written_version vs)) h in
      subst (λ (m : Counts). Listed file vs m.version m.resources m.zones m.flowgates) (sym p.1) (listed file vs p.0)

  pub list_refused : (w : Refusal) → answered (listed_counts vs) (first_of (list_grounds (fields_of file) written_version vs)) ≡ Err w → Err w ≡ answered (listed_counts vs) (first_of (writing_grounds file vs))
  list_refused w h = sym (ap (answered (listed_counts vs)) (first_earlier (list_grounds (fields_of file) written_version vs) _ w (refused_holds (listed_counts vs) w (first_of (list_grounds (fields_of file) written_version vs)) h)))

  -- a list past all but 15, with its counts n
  pub passed : (n : Counts) → first_of (writing_grounds file vs) ≡ clear → n ≡ listed_counts vs → Listed file vs n.version n.resources n.zones n.flowgates
  passed n h e = subst (λ (m : Counts). Listed file vs m.version m.resources m.zones m.flowgates) (sym e) (listed file vs (earlier_clear (list_grounds (fields_of file) written_version vs) _ h))

-- ---- the case file of a list past 16, 3, 16
-- its version is the one that is written, its counts are the list's first three numbers
version_written : (v : ℕ) (vs : List ℤ) → u8_at (file_for case_fields v vs) 4 ≡ v
unfolding file_for file_of
version_written v vs = refl

counts_read : (b : List ℕ) → u8_at b 4 ≡ written_version → listed_counts (case_numbers b) ≡ counts_in (case_of b)
unfolding case_as numbers_of numbers_at field_at case_fields
counts_read b e = ap (λ (v : ℕ). record { version = version_of v; resources = u8_at b 5; zones = u8_at b 6; flowgates = u8_at b 7 }) (sym e)

pub filed : (vs : List ℤ) → first_of (list_grounds case_fields written_version vs) ≡ clear → answered (counts_in (case_of (case_file vs))) (first_of (case_grounds (case_file vs))) ≡ answered (listed_counts vs) (first_of (writing_grounds Case vs))
filed vs h =
    let w = case_filed vs (none_holds (list_grounds case_fields written_version vs) h) in
    let counts : counts_in (case_of (case_file vs)) ≡ listed_counts vs = sym (counts_read (case_file vs) (version_written written_version vs)) ∙ ap listed_counts w.1 in
    rw (counts, w.0, first_later (list_grounds case_fields written_version vs) (further_grounds Case (case_file vs)) h)
