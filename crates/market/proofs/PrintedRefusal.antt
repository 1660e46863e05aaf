-- The program's text is a refusal's exactly when that refusal is the first that holds, 17 included.
use Rattle.std.specs.Prelude.{Ok}
use mathlib.Core.Path.{◌≡◌, refl, sym, ◌∙◌, ap}
use mathlib.Core.Bool.{Bool, true, false}
use mathlib.Core.List.{List, [], ◌∷◌}
use mathlib.Core.Logic.Iff
use mathlib.Core.Logic.{◌↔◌}
use Prim.Native.Nat.{ℕ, ◌<◌, ◌≤◌}
use native.Mathlib.Omega.{arith}
use lib.Dec.{leb}
use lib.ListN.{length, get_or, length-append}
use borrow.Author.Tests.{le-leb}
use Rattle.arith.specs.Sums.{all}
use Rattle.arith.proofs.NaturalSums.{total_same}
use Rattle.market.specs.declared.Refusal.{Refusal}
use Rattle.market.specs.declared.Refusal.TheVariants.{AboveBound, RowBroken, InputLength}
use Rattle.market.specs.declared.Valuation.{Valuation}
use Rattle.market.specs.Case.{Case}
use Rattle.market.specs.CaseFile.{case_of}
use Rattle.market.specs.UpperBounds.{quantities}
use Rattle.market.specs.Rows.{rows}
use Rattle.market.specs.Certificate.{Certificate, certificate_of}
use Rattle.market.specs.Refusals.{Finding, clear, holds, unless, place_of, first_of, FirstHolds, answered}
use Rattle.market.specs.Outcome.{Valid, case_grounds, form_grounds, certificate_grounds, grounds, valuation, outcome}
use Rattle.market.specs.Program.{case_in, certificate_in, most_input, input_ground, program_grounds, refusal_line, report, printed, printed_of}
use Rattle.market.specs.RefusedExactly.{Exactly, FirstAt, PlacesExactly, accepted_text}
use Rattle.market.proofs.Grounds.{none_holds, all_clear, first_holds, holds_first}
use Rattle.market.proofs.LargestCase.{CountRanges, rows_most, quantities_most}
use Rattle.market.proofs.LargestSums.{places_figure, row_numbers_figure}
use Rattle.market.proofs.Passed.{case_passed}
use Rattle.market.proofs.Ranges.{count_ranges}
use Rattle.market.proofs.RefusedPlaces.{above_valid, broken_valid, above_bound_at, row_broken_at, places}
use Rattle.market.proofs.RefusalText.{twenty_digits, line_same, of_place}

-- ---- no place that is found needs twenty digits
-- a place is no greater than the list is long
at_most : {A : Type 0} {Fails Passes : A → Type 0} (xs : List A) (p : ℕ) → FirstAt Fails Passes 1 xs p → p ≤ length xs
at_most xs p h = omega (arith, h.place, ap (λ l. length l) h.are, length-append h.before (h.this ∷ h.after))

module _ (b q : List ℕ) where
  counted : Valid b → CountRanges (case_of b)
  counted v = count_ranges (case_of b) (case_passed b v).counts_right

  bound_place : (p : ℕ) → FirstHolds (grounds b q) (AboveBound p) → p < twenty_digits
  unfolding all case_grounds form_grounds certificate_grounds
  bound_place p h =
      let t = (above_bound_at b q [] tt tt p).0 h in
      omega (arith, at_most (quantities (case_of b)) p t.first_above, total_same 1 (quantities (case_of b)), quantities_most (case_of b) (counted (above_valid b q p t)) (λ a. 1), places_figure)

  row_place : (p : ℕ) → FirstHolds (grounds b q) (RowBroken p) → p < twenty_digits
  unfolding all case_grounds form_grounds certificate_grounds
  row_place p h =
      let t = (row_broken_at b q [] tt tt p).0 h in
      let n = counted (broken_valid b q p t) in
      omega (arith, at_most (rows (case_of b)) p t.first_broken, total_same 1 (rows (case_of b)), rows_most (case_of b) n (λ row. 1), row_numbers_figure)

  place_most : (r : Refusal) → first_of (grounds b q) ≡ holds r → place_of r < twenty_digits
  place_most r h =
      of_place (λ p. p < twenty_digits) (omega arith) r
      (λ p e. bound_place p (first_holds (grounds b q) (AboveBound p) (h ∙ ap holds e)))
      (λ p e. row_place p (first_holds (grounds b q) (RowBroken p) (h ∙ ap holds e)))

  -- with 17 before them
  printed_place : (t : Bool) (r : Refusal) → first_of (unless t InputLength ∷ grounds b q) ≡ holds r → place_of r < twenty_digits
  unfolding first_of
  printed_place true r h = place_most r h
  printed_place false r h = let e : InputLength ≡ r = cc in rw (← e) (omega arith)

-- ---- which finding a text tells: a line that begins with 'refused' is none that begins with 'cost'
module _ (c : Case) (k : Certificate) (v : Valuation) where
  not_accepted : {A : Type 0} (r : Refusal) → report c k (Ok v) ≡ refusal_line r → A
  unfolding report refusal_line
  not_accepted r e = absurd (let z : ◌≡◌ {A = ℕ} 99 114 = ap (λ (l : List ℕ). get_or l 0 0) e in omega arith)

  refused_text : (f : Finding) → ((s : Refusal) → f ≡ holds s → place_of s < twenty_digits) → (r : Refusal) → report c k (answered v f) ≡ refusal_line r → f ≡ holds r
  unfolding report
  refused_text clear l r e = not_accepted r e
  refused_text (holds s) l r e = ap holds (sym (line_same r s (l s refl) (sym e)))

  accepted_text_lem : (f : Finding) → report c k (answered v f) ≡ report c k (Ok v) → f ≡ clear
  unfolding report
  accepted_text_lem clear e = refl
  accepted_text_lem (holds s) e = not_accepted s (sym e)

same_first : (gs hs : List Finding) → first_of gs ≡ first_of hs → (r : Refusal) → FirstHolds gs r ↔ FirstHolds hs r
same_first gs hs e r = ((λ h. first_holds hs r (sym e ∙ holds_first gs r h)), (λ h. first_holds gs r (e ∙ holds_first hs r h)))

module _ (input : List ℕ) where
  abbrev b : List ℕ
  b = case_in input

  abbrev q : List ℕ
  q = certificate_in input

  abbrev text_of : Finding → List ℕ
  text_of f = report (case_of b) (certificate_of q) (answered (valuation (case_of b) (certificate_of q)) f)

  text_from : (g : Finding) → printed_of input g ≡ text_of (first_of (g ∷ grounds b q))
  unfolding report first_of outcome
  text_from clear = refl
  text_from (holds r) = refl

  text_is : printed input ≡ text_of (first_of (program_grounds input))
  unfolding printed
  text_is = text_from (input_ground input)

  of_refusal : (r : Refusal) → text_of (holds r) ≡ refusal_line r
  unfolding report
  of_refusal r = refl

  pub program_exactly : Exactly (program_grounds input) (printed input) refusal_line (accepted_text b q)
  program_exactly =
      let gs = program_grounds input in
      let v = valuation (case_of b) (certificate_of q) in
      record {
        refused_exactly = λ r. (
          (λ e. first_holds gs r (refused_text (case_of b) (certificate_of q) v (first_of gs) (λ s h. printed_place b q (leb (length input) most_input) s h) r (sym text_is ∙ e))),
          (λ h. text_is ∙ (ap text_of (holds_first gs r h) ∙ of_refusal r)),
        );
        success_exactly = ((λ e. none_holds gs (accepted_text_lem (case_of b) (certificate_of q) v (first_of gs) (sym text_is ∙ e))), (λ h. text_is ∙ ap text_of (all_clear gs h)));
      }

  -- where 17 does not hold
  past_input : length input ≤ most_input → first_of (program_grounds input) ≡ first_of (grounds b q)
  unfolding first_of
  past_input l = ap (λ (t : Bool). first_of (unless t InputLength ∷ grounds b q)) (le-leb (length input) most_input l)

  pub program_placed : length input ≤ most_input → PlacesExactly b q (printed input) refusal_line
  unfolding all case_grounds form_grounds certificate_grounds
  program_placed l = places b q [] tt tt (λ r. Iff.trans (program_exactly.refused_exactly r) (same_first (program_grounds input) (grounds b q) (past_input l) r))
