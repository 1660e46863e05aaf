-- Each operation is refused on a ground exactly when that ground holds and no earlier one does, and succeeds exactly when
-- none holds; 13 and 14 are refused with the place of the first quantity above its bound, of the first row that is broken
-- (01, 'How each operation refuses').
use Rattle.std.specs.Prelude.{Ok, Err}
use Rattle.std.specs.Prelude.{List, ◌∷◌, ◌++◌, ◌↔◌, ◌≡◌, ℕ, ◌+◌, ◌<◌, ◌≤◌, ℤ, length}
use Rattle.arith.specs.Sums.{Each}
use Rattle.market.specs.declared.Refusal.{Refusal}
use Rattle.market.specs.declared.Refusal.TheVariants.{AboveBound, RowBroken}
use Rattle.market.specs.Case.{Case}
use Rattle.market.specs.CaseFile.{case_of}
use Rattle.market.specs.UpperBounds.{Quantity, quantities, Schedule, upper_bound}
use Rattle.market.specs.Rows.{Row, rows, sense, slack, Meets}
use Rattle.market.specs.Certificate.{certificate_of}
use Rattle.market.specs.Refusals.{Finding, FirstHolds, AllClear}
use Rattle.market.specs.Outcome.{case_grounds, case_answer, grounds, grounds_to12, grounds_to13, valuation, outcome, price_grounds, price_answer, charge_grounds, charge_answer}
use Rattle.market.specs.Numbers.{case_numbers, certificate_numbers, case_file, certificate_file, read_case_grounds, read_case, read_certificate_grounds, read_certificate, write_case_grounds, write_case, write_certificate_grounds, write_certificate}
use Rattle.market.specs.Program.{case_in, certificate_in, most_input, program_grounds, refusal_line, report, printed}

-- the program's text of an accepted certificate
abbrev pub accepted_text : List ℕ → List ℕ → List ℕ
accepted_text b q = report (case_of b) (certificate_of q) (Ok (valuation (case_of b) (certificate_of q)))

-- an operation with these grounds, its answer, what it answers on a refusal, and what on success
pub record Exactly {A : Type 0} (gs : List Finding) (answer : A) (refused : Refusal → A) (success : A) : Type 0 where
  pub refused_exactly : (why : Refusal) → (answer ≡ refused why) ↔ FirstHolds gs why
  pub success_exactly : (answer ≡ success) ↔ AllClear gs

-- ---- the places of 13 and 14
-- at a place of a list, counted from n, stands an element that fails, and every earlier one passes
pub record FirstAt {A : Type 0} (Fails Passes : A → Type 0) (n : ℕ) (es : List A) (at : ℕ) : Type 0 where
  pub before : List A
  pub this : A
  pub after : List A
  pub are : es ≡ before ++ (this ∷ after)
  pub place : at ≡ n + length before
  pub fails : Fails this
  pub pass : Each Passes before

abbrev pub AboveItsBound : Case → Schedule → Quantity → Type 0
AboveItsBound c x a = upper_bound c a < x a

abbrev pub WithinItsBound : Case → Schedule → Quantity → Type 0
WithinItsBound c x a = x a ≤ upper_bound c a

abbrev pub IsMet : Case → Schedule → Row → Type 0
IsMet c x row = Meets (sense row) (slack c x row)

abbrev pub IsBroken : Case → Schedule → Row → Type 0
IsBroken c x row = ¬ (IsMet c x row)

-- none of 1 to 12 holds, and the quantity at the place (cleared 1 to 4, then five per resource) is the first above its bound
pub record AboveBoundAt (b q : List ℕ) (at : ℕ) : Type 0 where
  pub none_earlier : AllClear (grounds_to12 b q)
  pub first_above : FirstAt (AboveItsBound (case_of b) (certificate_of q).amount) (WithinItsBound (case_of b) (certificate_of q).amount) 1 (quantities (case_of b)) at

-- none of 1 to 13 holds, and the row at the place is the first that is broken
pub record RowBrokenAt (b q : List ℕ) (at : ℕ) : Type 0 where
  pub none_earlier : AllClear (grounds_to13 b q)
  pub first_broken : FirstAt (IsBroken (case_of b) (certificate_of q).amount) (IsMet (case_of b) (certificate_of q).amount) 1 (rows (case_of b)) at

-- of a case and a certificate
pub record PlacesExactly {A : Type 0} (b q : List ℕ) (answer : A) (refused : Refusal → A) : Type 0 where
  pub above_bound : (at : ℕ) → (answer ≡ refused (AboveBound at)) ↔ AboveBoundAt b q at
  pub row_broken : (at : ℕ) → (answer ≡ refused (RowBroken at)) ↔ RowBrokenAt b q at

pub record RefusedExactly : Type 0 where
  pub case_check : (b : List ℕ) → Exactly (case_grounds b) (case_answer b) Err (Ok tt)
  pub certificate_check : (b q : List ℕ) → Exactly (grounds b q) (outcome b q) Err (Ok (valuation (case_of b) (certificate_of q)))
  pub price_call : (b q : List ℕ) (n : ℕ) → Exactly (price_grounds b q n) (price_answer b q n) Err (Ok tt)
  pub charge_call : (b q : List ℕ) (n : ℕ) → Exactly (charge_grounds b q n) (charge_answer b q n) Err (Ok tt)
  pub case_reading : (b : List ℕ) (n : ℕ) → Exactly (read_case_grounds b n) (read_case b n) Err (Ok (length (case_numbers b)))
  pub certificate_reading : (q : List ℕ) (n : ℕ) → Exactly (read_certificate_grounds q n) (read_certificate q n) Err (Ok (length (certificate_numbers q)))
  pub case_writing : (vs : List ℤ) (n : ℕ) → Exactly (write_case_grounds vs n) (write_case vs n) Err (Ok (length (case_file vs)))
  pub certificate_writing : (vs : List ℤ) (n : ℕ) → Exactly (write_certificate_grounds vs n) (write_certificate vs n) Err (Ok (length (certificate_file vs)))
  -- the program's text; 17 comes before all others
  pub program : (input : List ℕ) → Exactly (program_grounds input) (printed input) refusal_line (accepted_text (case_in input) (certificate_in input))
  -- 13 and 14; the program's where 17 does not hold
  pub certificate_places : (b q : List ℕ) → PlacesExactly b q (outcome b q) Err
  pub price_places : (b q : List ℕ) (n : ℕ) → PlacesExactly b q (price_answer b q n) Err
  pub charge_places : (b q : List ℕ) (n : ℕ) → PlacesExactly b q (charge_answer b q n) Err
  pub program_places : (input : List ℕ) → length input ≤ most_input → PlacesExactly (case_in input) (certificate_in input) (printed input) refusal_line
