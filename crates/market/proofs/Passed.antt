-- What has passed where no ground holds, test by test: proofs take a test by its name, and only this file knows at which place of
-- its list a ground stands.
use mathlib.Core.List.{List, [], ◌∷◌, ◌++◌}
use mathlib.Core.Path.{◌≡◌, refl}
use Prim.Native.Nat.{ℕ}
use lib.Dec.{T, leb, eqb}
use lib.IntN.{ℤ}
use lib.ListN.{length}
use Rattle.arith.specs.Sums.{all}
use Rattle.arith.proofs.Lists.{each_split}
use Rattle.market.specs.declared.Refusal.TheVariants.{CaseLength, CaseVersion, Counts, CaseSize, FieldRange, StepRule, LimitPair, CertificateLength, CertificateVersion, CountsDiffer, CertificateSize, PriceRange, NumberList}
use Rattle.market.specs.Case.{Case}
use Rattle.market.specs.CaseFile.{least_case_size, case_of}
use Rattle.market.specs.CaseCheck.{length_right, version_right, counts_right, case_size_right, fields_in_range, steps_rule, limits_ordered}
use Rattle.market.specs.Rows.{rows}
use Rattle.market.specs.Certificate.{Certificate, certificate_of, least_certificate_size, certificate_size}
use Rattle.market.specs.Refusals.{clear, AllClear}
use Rattle.market.specs.Outcome.{Valid, case_grounds, certificate_grounds, same_counts, price_right, form_grounds, price_ground, bound_ground, row_ground, grounds, grounds_to11, grounds_to12, grounds_to13}
use Rattle.market.specs.Numbers.{FieldsOf, fields_for, numbers_fit, counts_in_range, list_grounds}
use Rattle.market.proofs.Grounds.{unless_clear}
use Rattle.market.proofs.GroundTests.{Test, test, findings, AllPass, tests_pass, tests_clear}

-- ---- a case: 1 to 7
abbrev pub case_tests : List ℕ → List Test
case_tests b =
    test (length_right least_case_size b) CaseLength
    ∷ test (version_right b) CaseVersion
    ∷ test (counts_right (case_of b).resources (case_of b).zones (case_of b).flowgates) Counts
    ∷ test (case_size_right b (case_of b)) CaseSize
    ∷ test (fields_in_range (case_of b)) FieldRange
    ∷ test (steps_rule (case_of b)) StepRule
    ∷ test (limits_ordered (case_of b)) LimitPair
    ∷ []

pub record CasePassed (b : List ℕ) : Type 0 where
  pub length_right : T (length_right least_case_size b)
  pub version_right : T (version_right b)
  pub counts_right : T (counts_right (case_of b).resources (case_of b).zones (case_of b).flowgates)
  pub size_right : T (case_size_right b (case_of b))
  pub fields_in_range : T (fields_in_range (case_of b))
  pub steps_rule : T (steps_rule (case_of b))
  pub limits_ordered : T (limits_ordered (case_of b))

pub case_passed : (b : List ℕ) → Valid b → CasePassed b
unfolding case_grounds
case_passed b v = named (tests_pass (case_tests b) v)
  where
    named : AllPass (case_tests b) → CasePassed b
    named (long, (version, (counts, (size, (fields, (steps, (limits, none))))))) =
        record { length_right = long; version_right = version; counts_right = counts; size_right = size; fields_in_range = fields; steps_rule = steps; limits_ordered = limits }

-- ---- a certificate: 8 to 11, its form
abbrev pub form_tests : Case → List ℕ → Certificate → List Test
form_tests c q k =
    test (length_right least_certificate_size q) CertificateLength
    ∷ test (version_right q) CertificateVersion
    ∷ test (same_counts c k) CountsDiffer
    ∷ test (eqb (length q) (certificate_size c.version c.resources c.zones c.flowgates)) CertificateSize
    ∷ []

pub record FormPassed (c : Case) (q : List ℕ) (k : Certificate) : Type 0 where
  pub length_right : T (length_right least_certificate_size q)
  pub version_right : T (version_right q)
  pub same_counts : T (same_counts c k)
  pub size_right : T (eqb (length q) (certificate_size c.version c.resources c.zones c.flowgates))

pub form_passed : (c : Case) (q : List ℕ) (k : Certificate) → AllClear (form_grounds c q k) → FormPassed c q k
unfolding form_grounds
form_passed c q k h = named (tests_pass (form_tests c q k) h)
  where
    named : AllPass (form_tests c q k) → FormPassed c q k
    named (long, (version, (counts, (size, none)))) = record { length_right = long; version_right = version; same_counts = counts; size_right = size }

-- 12
abbrev pub price_test : Case → Certificate → Test
price_test c k = test (all (price_right k) (rows c)) PriceRange

pub record CertificatePassed (c : Case) (q : List ℕ) (k : Certificate) : Type 0 where
  pub form : FormPassed c q k
  pub prices_right : T (all (price_right k) (rows c))
  pub amounts_within : bound_ground c k ≡ clear
  pub rows_met : row_ground c k ≡ clear

pub certificate_passed : (c : Case) (q : List ℕ) (k : Certificate) → AllClear (certificate_grounds c q k) → CertificatePassed c q k
unfolding certificate_grounds
certificate_passed c q k h = named (each_split (λ g. g ≡ clear) (form_grounds c q k) (price_ground c k ∷ bound_ground c k ∷ row_ground c k ∷ []) h)
  where
    named : AllClear (form_grounds c q k) × AllClear (price_ground c k ∷ bound_ground c k ∷ row_ground c k ∷ []) → CertificatePassed c q k
    named (form, (prices, (amounts, (met, none)))) =
        record { form = form_passed c q k form; prices_right = unless_clear (all (price_right k) (rows c)) PriceRange prices; amounts_within = amounts; rows_met = met }

-- ---- a case and a certificate: 14 comes last, and the tests up to 12
pub grounds_are : (b q : List ℕ) → grounds b q ≡ grounds_to13 b q ++ (row_ground (case_of b) (certificate_of q) ∷ [])
unfolding case_grounds form_grounds certificate_grounds grounds_to11 grounds_to12 grounds_to13
grounds_are b q = refl

abbrev pub tests_to12 : List ℕ → List ℕ → List Test
tests_to12 b q = case_tests b ++ (form_tests (case_of b) q (certificate_of q) ++ (price_test (case_of b) (certificate_of q) ∷ []))

pub tests_to_12 : (b q : List ℕ) → grounds_to12 b q ≡ findings (tests_to12 b q)
unfolding case_grounds form_grounds grounds_to11 grounds_to12
tests_to_12 b q = refl

-- ---- a list of numbers to be written: 16, 3, 16
abbrev pub list_tests : FieldsOf → ℕ → List ℤ → List Test
list_tests fields v vs =
    test (leb 3 (length vs)) NumberList
    ∷ test (counts_in_range vs) Counts
    ∷ test (numbers_fit (fields_for fields v vs) vs) NumberList
    ∷ []

pub record ListPassed (fields : FieldsOf) (v : ℕ) (vs : List ℤ) : Type 0 where
  pub three_numbers : T (leb 3 (length vs))
  pub counts_in_range : T (counts_in_range vs)
  pub numbers_fit_lem : T (numbers_fit (fields_for fields v vs) vs)

module _ (fields : FieldsOf) (v : ℕ) (vs : List ℤ) where
  pub list_passed : AllClear (list_grounds fields v vs) → ListPassed fields v vs
  unfolding list_grounds
  list_passed h = named (tests_pass (list_tests fields v vs) h)
    where
      named : AllPass (list_tests fields v vs) → ListPassed fields v vs
      named (three, (counts, (fit, none))) = record { three_numbers = three; counts_in_range = counts; numbers_fit_lem = fit }

  pub list_clear : ListPassed fields v vs → AllClear (list_grounds fields v vs)
  unfolding list_grounds
  list_clear h = tests_clear (list_tests fields v vs) (h.three_numbers, (h.counts_in_range, (h.numbers_fit_lem, tt)))
