-- Stages: what a file is known to be past some of them, and that the stages together are the grounds in their order.
-- Later crates take from here that a case that has passed is valid.
use Rattle.std.specs.Prelude.{Ok, Err}
use Rattle.std.proofs.Common.{◌≡◌, ℕ, ◌+◌, ◌≤◌, true, T, eqb, leb, List, ◌++◌, length, sym, refl, subst, leb→le}
use Rattle.arith.proofs.AllTests.{and_split}
use Rattle.market.specs.declared.Refusal.{Refusal}
use Rattle.market.specs.declared.Counts.{Counts}
use Rattle.market.specs.Bytes.{u32_at}
use Rattle.market.specs.CaseFile.{least_case_size, case_of}
use Rattle.market.specs.CaseCheck.{CountsWithin, length_right, counts_right, case_size_right}
use Rattle.market.specs.Records.{counts_in}
use Rattle.market.specs.Numbers.{field_grounds}
use Rattle.market.specs.Refusals.{answered, Finding, clear, holds, first_of}
use Rattle.market.specs.Outcome.{case_grounds, Valid}
use Rattle.market.proofs.Grounds.{none_holds, first_earlier, first_later, answered_ok}
use Rattle.market.proofs.Ranges.{counts_most}
use Rattle.wire.specs.CaseBytes.{CaseBytes}
use Rattle.wire.proofs.WholeCase.{whole_case, valid_case}
use Rattle.case_check.specs.Stages.{shape_grounds, CaseBytesOf, SoundCase}

-- ---- from tests to inequalities
pub length_from : (b : List ℕ) → length_right least_case_size b ≡ true → least_case_size ≤ length b
unfolding length_right
length_from b e =
    let t : T (length_right least_case_size b) = rw e tt in
    leb→le least_case_size (length b) (and_split (leb least_case_size (length b)) (eqb (u32_at b 0 + 4) (length b)) t).0

pub counts_from : (r z f : ℕ) → counts_right r z f ≡ true → CountsWithin r z f
counts_from r z f e = counts_most r z f (subst T (sym e) tt)

-- ---- past 1 to 4
pub shape_bytes : (b : List ℕ) → length_right least_case_size b ≡ true → counts_right (case_of b).resources (case_of b).zones (case_of b).flowgates ≡ true → case_size_right b (case_of b) ≡ true → CaseBytesOf b (counts_in (case_of b))
shape_bytes b long counts size = whole_case b (subst T (sym counts) tt) (subst T (sym size) tt)

-- ---- the stages are the grounds in their order
grounds_are : (b : List ℕ) → case_grounds b ≡ shape_grounds b ++ field_grounds b
unfolding shape_grounds case_grounds
grounds_are b = refl

pub refused_stands : (b : List ℕ) (w : Refusal) → first_of (shape_grounds b) ≡ holds w → first_of (case_grounds b) ≡ holds w
refused_stands b w e = rw grounds_are (first_earlier (shape_grounds b) (field_grounds b) w e)

pub later_grounds : (b : List ℕ) → first_of (shape_grounds b) ≡ clear → first_of (case_grounds b) ≡ first_of (field_grounds b)
later_grounds b e = rw grounds_are (first_later (shape_grounds b) (field_grounds b) e)

pub sound_passes : (b : List ℕ) → SoundCase (case_of b) → first_of (field_grounds b) ≡ clear
unfolding first_of
sound_passes b h = rw (h.in_range, h.steps_right, h.ordered)

-- ---- what a caller learns
pub passed_clear : {A : Type 0} (m n : A) (f : Finding) → answered m f ≡ Ok n → (f ≡ clear) × (n ≡ m)
passed_clear m n f h = let w = answered_ok m n f h in (w.0, sym w.1)

pub refused_holds : {A : Type 0} (m : A) (w : Refusal) (f : Finding) → answered m f ≡ Err w → f ≡ holds w
refused_holds m w clear h = cc
refused_holds m w (holds r) h = cc

module _ (b : List ℕ) (n : Counts) (h : answered (counts_in (case_of b)) (first_of (case_grounds b)) ≡ Ok n) where
  pub passed_valid : Valid b
  passed_valid = none_holds (case_grounds b) (passed_clear (counts_in (case_of b)) n (first_of (case_grounds b)) h).0

  pub passed_counts : n ≡ counts_in (case_of b)
  passed_counts = (passed_clear (counts_in (case_of b)) n (first_of (case_grounds b)) h).1

  pub passed_bytes : CaseBytes b n.resources n.zones n.flowgates
  passed_bytes = subst (λ (m : Counts). CaseBytes b m.resources m.zones m.flowgates) (sym passed_counts) (valid_case b passed_valid)
