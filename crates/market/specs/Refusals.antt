-- Refusals: their numbers and places, and the first ground of a list that holds (01, 'How each operation refuses').
use Rattle.std.specs.Prelude.{Option, Some, None, Result, Ok, Err}
use Rattle.std.specs.Prelude.{Bool, true, false, List, [], ◌∷◌, ◌++◌, ◌≡◌, ℕ, suc, pos, length, drop}
use Rattle.arith.specs.Sums.{Each}
use Rattle.market.specs.declared.Refusal.{Refusal}
use Rattle.market.specs.declared.Refusal.TheVariants.{CaseLength, CaseVersion, Counts, CaseSize, FieldRange, StepRule, LimitPair, CertificateLength, CertificateVersion, CountsDiffer, CertificateSize, PriceRange, AboveBound, RowBroken, BufferShort, NumberList, InputLength}
use Rattle.market.specs.declared.Valuation.{Valuation}
use Rattle.market.specs.declared.Answer.{Answer}
use Rattle.market.specs.declared.CheckResult.{CheckResult}
use Rattle.market.specs.declared.Count.{Count}

abbrev pub number_of : Refusal → ℕ
number_of CaseLength = 1
number_of CaseVersion = 2
number_of Counts = 3
number_of CaseSize = 4
number_of FieldRange = 5
number_of StepRule = 6
number_of LimitPair = 7
number_of CertificateLength = 8
number_of CertificateVersion = 9
number_of CountsDiffer = 10
number_of CertificateSize = 11
number_of PriceRange = 12
number_of (AboveBound at) = 13
number_of (RowBroken at) = 14
number_of BufferShort = 15
number_of NumberList = 16
number_of InputLength = 17

-- 0 where there is none
abbrev pub place_of : Refusal → ℕ
place_of CaseLength = 0
place_of CaseVersion = 0
place_of Counts = 0
place_of CaseSize = 0
place_of FieldRange = 0
place_of StepRule = 0
place_of LimitPair = 0
place_of CertificateLength = 0
place_of CertificateVersion = 0
place_of CountsDiffer = 0
place_of CertificateSize = 0
place_of PriceRange = 0
place_of (AboveBound at) = at
place_of (RowBroken at) = at
place_of BufferShort = 0
place_of NumberList = 0
place_of InputLength = 0

-- ---- what a C host receives for every case of every answer; 0 is success
abbrev pub case_number_of : Result (Unit {0}) Refusal → ℕ
case_number_of (Ok done) = 0
case_number_of (Err why) = number_of why

abbrev pub result_of : Result Valuation Refusal → CheckResult
result_of (Ok values) = record { refusal = 0; place = 0; cost = values.cost.0; bound = values.bound.0; gap = values.gap.0 }
result_of (Err why) = record { refusal = number_of why; place = place_of why; cost = pos 0; bound = pos 0; gap = pos 0 }

abbrev pub answer_of : Result (Unit {0}) Refusal → Answer
answer_of (Ok done) = record { refusal = 0; place = 0 }
answer_of (Err why) = record { refusal = number_of why; place = place_of why }

abbrev pub count_of : Result ℕ Refusal → Count
count_of (Ok n) = record { refusal = 0; count = n }
count_of (Err why) = record { refusal = number_of why; count = 0 }

-- ---- grounds: what each test finds, in the order in which they refuse
pub data Finding : Type 0 where
  clear : Finding
  holds : Refusal → Finding

-- the ground holds unless the test passes
abbrev pub unless : Bool → Refusal → Finding
unless true why = clear
unless false why = holds why

-- the first element that fails the test, by its place, counted from n
module _ {A : Type 0} where
  unfoldable pub first_failing : (A → Bool) → (ℕ → Refusal) → ℕ → List A → Finding
  first_failing test whyAt n [] = clear
  first_failing test whyAt n (e ∷ es) = elim (test e) [ true ↦ first_failing test whyAt (suc n) es | false ↦ holds (whyAt n) ]

-- what a search for the first one answers
abbrev pub found_at : (ℕ → Refusal) → Option ℕ → Finding
found_at whyAt None = clear
found_at whyAt (Some at) = holds (whyAt at)

unfoldable pub first_of : List Finding → Finding
first_of [] = clear
first_of (clear ∷ gs) = first_of gs
first_of (holds why ∷ gs) = holds why

-- the answer that a finding gives: the value, or the refusal
module _ {A : Type 0} where
  abbrev pub answered : A → Finding → Result A Refusal
  answered value clear = Ok value
  answered value (holds why) = Err why

-- ---- for the reader: refused on a ground exactly when that ground holds and no earlier one does
pub record FirstHolds (gs : List Finding) (why : Refusal) : Type 0 where
  pub earlier : List Finding
  pub later : List Finding
  pub are : gs ≡ earlier ++ (holds why ∷ later)
  pub clear_before : Each (λ g. g ≡ clear) earlier

abbrev pub AllClear : List Finding → Type 0
AllClear gs = Each (λ g. g ≡ clear) gs

-- a buffer after a delivery: on success the numbers from its start on, and the rest as it was; else as it was
module _ {A : Type 0} where
  abbrev pub buffer_after : Finding → List A → List A → List A
  buffer_after clear new old = new ++ drop (length new) old
  buffer_after (holds why) new old = old
