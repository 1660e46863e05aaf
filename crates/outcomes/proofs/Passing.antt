-- From the stages' answer to the definitions: past 1 to 14 a certificate stands, its numbers fit, and its answer is 01's.
use Rattle.std.specs.Prelude.{Result, Ok, Err}
use mathlib.Core.Path.{◌≡◌, refl, sym, ◌∙◌, ap}
use mathlib.Core.List.{List, [], ◌∷◌}
use Prim.Native.Nat.{ℕ}
use native.Mathlib.Omega.{arith}
use Rattle.arith.proofs.Lists.{each_split}
use Rattle.market.specs.declared.Refusal.{Refusal}
use Rattle.market.specs.declared.Counts.{Counts}
use Rattle.market.specs.declared.Valuation.{Valuation}
use Rattle.market.specs.CaseFile.{case_of}
use Rattle.market.specs.Certificate.{certificate_of}
use Rattle.market.specs.Cost.{cost}
use Rattle.market.specs.Bound.{bound}
use Rattle.market.specs.Records.{counts_in}
use Rattle.market.specs.Refusals.{clear, first_of}
use Rattle.market.specs.Outcome.{row_ground, grounds, grounds_to13, valuation, outcome}
use Rattle.market.proofs.Grounds.{none_holds, all_clear}
use Rattle.market.proofs.Passed.{grounds_are}
use Rattle.market.proofs.Accepted.{demand3}
use Rattle.market.proofs.Ranges.{valid_ranges, price_ranges}
use Rattle.market.proofs.ScheduleSizes.{cost_size}
use Rattle.market.proofs.BoundSizes.{bound_size}
use Rattle.market.specs.Refusals.{answered}
use Rattle.case_check.proofs.Passing.{passed_clear, refused_holds}
use Rattle.prices.specs.Standing.{Standing}
use Rattle.units.specs.Room.{SumRoom}
use Rattle.quantities.proofs.Passing.{standing, stays, one_more}
use Rattle.outcomes.specs.Checked.{AcceptedWith, Checked}

-- ---- one ground more than 1 to 13
module _ (b q : List ℕ) where
  -- refused before the rows
  pub rows_not_reached : (w : Refusal) → answered (counts_in (case_of b)) (first_of (grounds_to13 b q)) ≡ Err w → answered (counts_in (case_of b)) (first_of (grounds b q)) ≡ Err w
  rows_not_reached w h = rw (grounds_are b q) (stays (counts_in (case_of b)) (grounds_to13 b q) (row_ground (case_of b) (certificate_of q) ∷ []) w h)

  pub rows_reached : (n : Counts) → answered (counts_in (case_of b)) (first_of (grounds_to13 b q)) ≡ Ok n → answered (counts_in (case_of b)) (first_of (grounds b q)) ≡ answered n (row_ground (case_of b) (certificate_of q))
  rows_reached n h = rw (grounds_are b q) (one_more (counts_in (case_of b)) (grounds_to13 b q) (row_ground (case_of b) (certificate_of q)) n h)

  -- ---- past 1 to 14
  pub accepted_by : (n : Counts) → answered (counts_in (case_of b)) (first_of (grounds b q)) ≡ Ok n → AcceptedWith b q n
  accepted_by n h = let p = passed_clear (counts_in (case_of b)) n (first_of (grounds b q)) h in record { none_holds = p.0; counts = p.1 }

  pub all_standing : (n : Counts) → AcceptedWith b q n → Standing b q n.resources n.zones n.flowgates
  all_standing n h =
      let each = none_holds (grounds b q) h.none_holds in
      let to13 = (each_split (λ g. g ≡ clear) (grounds_to13 b q) (row_ground (case_of b) (certificate_of q) ∷ []) (rw (grounds_are b q) at each)).0 in
      rw h.counts (standing b q (all_clear (grounds_to13 b q) to13))

  -- the gap of a standing certificate fits
  pub gap_room : {r z f : ℕ} → Standing b q r z f → SumRoom (cost (case_of b) (certificate_of q).amount) (bound (case_of b) (certificate_of q).price)
  gap_room s =
      let h = valid_ranges b s.prices.valid in
      omega (arith, cost_size (case_of b) h (certificate_of q).amount s.bounded, bound_size (case_of b) h (certificate_of q).price (price_ranges (case_of b) (certificate_of q) s.prices.in_range))

  -- ---- the answer, and with it the promise
  checked : (r : Result Valuation Refusal) → r ≡ outcome b q → Checked b q r
  checked r e = record { answer = e; promise = λ paid least gap h. demand3 b q paid least gap (sym e ∙ h) }

  pub accepted : (n : Counts) (v : Valuation) → AcceptedWith b q n → v ≡ valuation (case_of b) (certificate_of q) → Checked b q (Ok v)
  unfolding outcome
  accepted n v h e = checked (Ok v) (ap Ok e ∙ rw h.none_holds refl)

  pub refused : (w : Refusal) → answered (counts_in (case_of b)) (first_of (grounds b q)) ≡ Err w → Checked b q (Err w)
  unfolding outcome
  refused w h = checked (Err w) (rw (refused_holds (counts_in (case_of b)) w (first_of (grounds b q)) h) refl)
