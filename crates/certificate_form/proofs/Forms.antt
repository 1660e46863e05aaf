-- Grounds 8 to 11 by the tests of the code, and what a file past them is.
use Rattle.std.specs.Prelude.{Ok, Err}
use mathlib.Core.Path.{◌≡◌, sym, ap, ◌∙◌}
use mathlib.Core.Bool.{true, false}
use mathlib.Core.List.{List, [], ◌∷◌}
use Prim.Native.Nat.{ℕ, ◌+◌, ◌≤◌}
use lib.Dec.{T, leb, eqb, leb→le, eqb→eq}
use lib.ListN.{length}
use Rattle.arith.proofs.AllTests.{and_split, and-each}
use Rattle.market.specs.declared.Refusal.TheVariants as R
use Rattle.market.specs.declared.version.Version.{Version}
use Rattle.market.specs.Version.{version_in}
use Rattle.market.specs.declared.Counts.{Counts}
use Rattle.market.specs.Bytes.{u8_at, u32_at}
use Rattle.market.specs.Case.{Case}
use Rattle.market.specs.CaseCheck.{length_right, version_right}
use Rattle.market.specs.Certificate.{least_certificate_size, certificate_of, certificate_size, certificate_as}
use Rattle.market.specs.Records.{counts_in}
use Rattle.market.specs.Refusals.{answered, first_of, AllClear}
use Rattle.market.specs.Outcome.{same_counts, form_grounds}
use Rattle.market.proofs.Versions.{one_version}
use Rattle.market.proofs.LargestCase.{CountRanges}
use Rattle.market.proofs.Passed.{form_passed}
use Rattle.certificate_records.specs.CertificateBytes.{CertificateBytes}
use Rattle.certificate_form.specs.Form.{counts_are, size_is}

pub length_from : (q : List ℕ) {least : ℕ} → length_right least q ≡ true → least ≤ length q
unfolding length_right
length_from q {least} e =
    let t : T (length_right least q) = rw e tt in
    leb→le least (length q) (and_split (leb least (length q)) (eqb (u32_at q 0 + 4) (length q)) t).0

-- ---- 8 to 11, each where the earlier ones have passed; 10 and 11 of the case's counts by value
module _ (q : List ℕ) {n : Counts} (c : Case) (e : n ≡ counts_in c) where
  pub counts_are_lem : counts_are q n ≡ same_counts c (certificate_of q)
  unfolding counts_are same_counts certificate_as
  counts_are_lem = ap (λ (m : Counts). counts_are q m) e

  pub size_is_lem : size_is q n ≡ eqb (length q) (certificate_size c.version c.resources c.zones c.flowgates)
  unfolding size_is
  size_is_lem = ap (λ (m : Counts). size_is q m) e

  pub by_length : length_right least_certificate_size q ≡ false → Err R.CertificateLength ≡ answered n (first_of (form_grounds c q (certificate_of q)))
  unfolding form_grounds first_of
  by_length h = rw h

  pub by_version : length_right least_certificate_size q ≡ true → version_right q ≡ false → Err R.CertificateVersion ≡ answered n (first_of (form_grounds c q (certificate_of q)))
  unfolding form_grounds first_of
  by_version h k = rw (h, k)

  pub by_counts : length_right least_certificate_size q ≡ true → version_right q ≡ true → counts_are q n ≡ false → Err R.CountsDiffer ≡ answered n (first_of (form_grounds c q (certificate_of q)))
  unfolding form_grounds first_of
  by_counts h k l = rw (h, k, sym counts_are_lem ∙ l)

  pub by_size : length_right least_certificate_size q ≡ true → version_right q ≡ true → counts_are q n ≡ true → size_is q n ≡ false → Err R.CertificateSize ≡ answered n (first_of (form_grounds c q (certificate_of q)))
  unfolding form_grounds first_of
  by_size h k l m = rw (h, k, sym counts_are_lem ∙ l, sym size_is_lem ∙ m)

  pub by_none : length_right least_certificate_size q ≡ true → version_right q ≡ true → counts_are q n ≡ true → size_is q n ≡ true → Ok n ≡ answered n (first_of (form_grounds c q (certificate_of q)))
  unfolding form_grounds first_of
  by_none h k l m = rw (h, k, sym counts_are_lem ∙ l, sym size_is_lem ∙ m)

-- ---- a file past them, for a case whose counts are in range
pub form_bytes : (q : List ℕ) (c : Case) → CountRanges c → AllClear (form_grounds c q (certificate_of q)) → CertificateBytes q c.resources c.zones c.flowgates
unfolding same_counts certificate_as
form_bytes q c h clear =
    let passed = form_passed c q (certificate_of q) clear in
    let counts = and-each (eqb (u8_at q 5) c.resources) (eqb (u8_at q 6) c.zones ∷ eqb (u8_at q 7) c.flowgates ∷ []) passed.same_counts in
    record {
      resources_are = eqb→eq (u8_at q 5) c.resources counts.0;
      zones_are = eqb→eq (u8_at q 6) c.zones counts.1.0;
      flowgates_are = eqb→eq (u8_at q 7) c.flowgates counts.1.1.0;
      counts = h;
      sized =
          eqb→eq (length q) (certificate_size c.version c.resources c.zones c.flowgates) passed.size_right
          ∙ ap (λ (version : Version). certificate_size version c.resources c.zones c.flowgates) (one_version c.version (version_in q));
    }
