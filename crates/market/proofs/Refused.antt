-- Each operation is refused exactly on the first ground that holds, 13 and 14 with their places.
use Rattle.market.specs.declared.Refusal.{Refusal}
use Rattle.std.specs.Prelude.{Result, Ok, Err}
use mathlib.Core.Path.{◌≡◌, refl, sym, ◌∙◌, ap}
use mathlib.Core.List.{List, [], ◌∷◌}
use Prim.Native.Nat.{ℕ}
use lib.Dec.{leb}
use lib.ListN.{length}
use Rattle.arith.specs.Sums.{all}
use Rattle.market.specs.declared.Refusal.TheVariants.{BufferShort}
use Rattle.market.specs.CaseFile.{case_of}
use Rattle.market.specs.Certificate.{certificate_of}
use Rattle.market.specs.Charges.{charge_count}
use Rattle.market.specs.Prices.{price_count}
use Rattle.market.specs.Refusals.{Finding, clear, holds, first_of, answered}
use Rattle.market.specs.Outcome.{case_grounds, case_answer, form_grounds, certificate_grounds, grounds, valuation, outcome, price_grounds, price_answer, charge_grounds, charge_answer}
use Rattle.market.specs.Numbers.{case_numbers, certificate_numbers, case_file, certificate_file, read_case_grounds, read_case, read_certificate_grounds, read_certificate, write_case_grounds, write_case, write_certificate_grounds, write_certificate}
use Rattle.market.specs.RefusedExactly.{Exactly, PlacesExactly, RefusedExactly}
use Rattle.market.proofs.Grounds.{none_holds, all_clear, first_holds, holds_first}
use Rattle.market.proofs.GroundTests.{Test, test}
use Rattle.market.proofs.RefusedPlaces.{other_number, places}
use Rattle.market.proofs.PrintedRefusal.{program_exactly, program_placed}

-- an answer from which the finding can be told
module _ {A : Type 0} (answer_of : Finding → A) (findingIn : A → Finding) (told : (f : Finding) → findingIn (answer_of f) ≡ f) where
  same_finding : (f g : Finding) → answer_of f ≡ answer_of g → f ≡ g
  same_finding f g e = sym (told f) ∙ (ap findingIn e ∙ told g)

  exactly : (gs : List Finding) → Exactly gs (answer_of (first_of gs)) (λ r. answer_of (holds r)) (answer_of clear)
  exactly gs =
      record {
        refused_exactly = λ r. ((λ e. first_holds gs r (same_finding (first_of gs) (holds r) e)), (λ h. ap answer_of (holds_first gs r h)));
        success_exactly = ((λ e. none_holds gs (same_finding (first_of gs) clear e)), (λ h. ap answer_of (all_clear gs h)));
      }

-- what a finding was, from its answer
module _ {A : Type 0} where
  found_in : Result A Refusal → Finding
  found_in (Ok value) = clear
  found_in (Err r) = holds r

  found_in-answered : (value : A) (f : Finding) → found_in (answered value f) ≡ f
  unfolding found_in
  found_in-answered value clear = refl
  found_in-answered value (holds r) = refl

  answers : (value : A) (gs : List Finding) → Exactly gs (answered value (first_of gs)) Err (Ok value)
  answers value = exactly (answered value) found_in (found_in-answered value)

-- 15, of a lent buffer of n numbers
abbrev room_tests : ℕ → ℕ → List Test
room_tests needed n = test (leb needed n) BufferShort ∷ []

certificate_exactly : (b q : List ℕ) → Exactly (grounds b q) (outcome b q) Err (Ok (valuation (case_of b) (certificate_of q)))
unfolding outcome
certificate_exactly b q = answers (valuation (case_of b) (certificate_of q)) (grounds b q)

certificate_placed : (b q : List ℕ) → PlacesExactly b q (outcome b q) Err
unfolding all case_grounds form_grounds certificate_grounds
certificate_placed b q = places b q [] tt tt (certificate_exactly b q).refused_exactly

price_exactly : (b q : List ℕ) (n : ℕ) → Exactly (price_grounds b q n) (price_answer b q n) Err (Ok tt)
unfolding price_answer
price_exactly b q n = answers tt (price_grounds b q n)

charge_exactly : (b q : List ℕ) (n : ℕ) → Exactly (charge_grounds b q n) (charge_answer b q n) Err (Ok tt)
unfolding charge_answer
charge_exactly b q n = answers tt (charge_grounds b q n)

pub refused_exactly : RefusedExactly
unfolding all other_number case_answer read_case read_certificate write_case write_certificate price_grounds charge_grounds
refused_exactly =
    record {
      case_check = λ b. answers tt (case_grounds b);
      certificate_check = certificate_exactly;
      price_call = price_exactly;
      charge_call = charge_exactly;
      case_reading = λ b n. answers (length (case_numbers b)) (read_case_grounds b n);
      certificate_reading = λ q n. answers (length (certificate_numbers q)) (read_certificate_grounds q n);
      case_writing = λ vs n. answers (length (case_file vs)) (write_case_grounds vs n);
      certificate_writing = λ vs n. answers (length (certificate_file vs)) (write_certificate_grounds vs n);
      program = program_exactly;
      certificate_places = certificate_placed;
      price_places = λ b q n. places b q (room_tests (price_count (case_of b)) n) tt tt (price_exactly b q n).refused_exactly;
      charge_places = λ b q n. places b q (room_tests (charge_count (case_of b)) n) tt tt (charge_exactly b q n).refused_exactly;
      program_places = program_placed;
    }
