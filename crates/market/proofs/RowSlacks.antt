-- The slack of each row in the words of 01.
use mathlib.Core.Path.{◌≡◌, ◌∙◌, ap}
use mathlib.Core.Bool.{cond}
use mathlib.Core.List.{map}
use Prim.Native.Nat.{ℕ, suc, ◌<◌}
use native.Mathlib.Omega.{arith}
use lib.Dec.{T, eqb}
use lib.IntN.{ℤ, pos, neg_ℤ, ◌+ℤ◌, ◌*ℤ◌, ◌-ℤ◌}
use Rattle.arith.specs.Sums.{sum_of, upto, across}
use Rattle.arith.proofs.Order.{neg-*ℤ}
use Rattle.arith.proofs.Linear.{sorted, count}
use Rattle.arith.proofs.Sums.{sum-ext, sum-neg, sum-zero, sum-map, sum-across, append_sums, sum-cond-l}
use Rattle.arith.proofs.Picks.{sum_pick}
use Rattle.market.specs.Case.{Case, Curve, curves, has_curve}
use Rattle.market.specs.Limits.{max_of, hi_of}
use Rattle.market.specs.UpperBounds.{energy, regulation, contingency, on_line_short_term, services, Quantity, cleared_quantity, provided_quantity, quantities, Schedule}
use Rattle.market.specs.Rows.{Row, balance_row, market_row, zone_row, flowgate_row, limit_row, Limit, max_with_reserve, max_with_short_term, minimum, high, low, none, one, entries, in_reserve, in_limit, coefficient, right_side, left_side, slack}
use Rattle.market.specs.InWords.{RowsInWords, kw_of, reserve_of, reserve_in_zone}
use Rattle.market.proofs.Entries.{none-*, one-*, energy_term, reserve_term, limit_term, limit_term_lem, cleared_term}
use Rattle.market.proofs.TakenByRows.{same_number, only_number}

-- a sum over the quantities, by curves and by resources
pub quantities_sum : (c : Case) (g : Quantity → ℤ) → sum_of g (quantities c) ≡ sum_of (λ k. g (cleared_quantity k)) (curves c.version) +ℤ sum_of (λ i. sum_of (λ s. g (provided_quantity i s)) (services c.version)) (upto c.resources)
unfolding quantities
quantities_sum c g =
    append_sums g (map cleared_quantity (curves c.version)) (across (λ i. map (provided_quantity i) (services c.version)) (upto c.resources)) (sum-map g cleared_quantity (curves c.version))
    (sum-across g (λ i. map (provided_quantity i) (services c.version)) (upto c.resources) ∙ sum-ext _ _ (λ i. sum-map g (provided_quantity i) (services c.version)) (upto c.resources))

module _ (c : Case) (x : Schedule) where
  -- a row by what it takes of the cleared quantities, a, and of each resource, f
  slack_by : (r : Row) (f : ℕ → ℤ) (a : ℤ) → sum_of (λ k. coefficient c r (cleared_quantity k) *ℤ pos (x (cleared_quantity k))) (curves c.version) ≡ a →
      ((i : ℕ) → sum_of (λ s. coefficient c r (provided_quantity i s) *ℤ kw_of x i s) (services c.version) ≡ f i) →
      slack c x r ≡ (a +ℤ sum_of f (upto c.resources)) -ℤ right_side c r
  unfolding slack left_side
  slack_by r f a h k =
      ap (λ (t : ℤ). t -ℤ right_side c r)
      (quantities_sum c (λ q. coefficient c r q *ℤ pos (x q))
      ∙ ap (λ (t : ℤ). t +ℤ sum_of (λ i. sum_of (λ s. coefficient c r (provided_quantity i s) *ℤ kw_of x i s) (services c.version)) (upto c.resources)) h
      ∙ ap (λ (t : ℤ). a +ℤ t) (sum-ext (λ i. sum_of (λ s. coefficient c r (provided_quantity i s) *ℤ kw_of x i s) (services c.version)) f k (upto c.resources)))

  none_cleared : sum_of (λ k. none *ℤ pos (x (cleared_quantity k))) (curves c.version) ≡ pos 0
  none_cleared = sum-ext (λ k. none *ℤ pos (x (cleared_quantity k))) (λ k. pos 0) (λ k. none-* (pos (x (cleared_quantity k)))) (curves c.version) ∙ sum-zero (curves c.version)

  plain : (s d : ℤ) → (pos 0 +ℤ s) -ℤ d ≡ s -ℤ d
  plain s d = simp sorted (simp count (omega arith))

  balance : slack c x balance_row ≡ sum_of (λ i. kw_of x i energy) (upto c.resources) -ℤ pos c.demand
  unfolding coefficient right_side
  balance =
      slack_by balance_row (λ i. kw_of x i energy) (pos 0) none_cleared (λ i. energy_term c.version one (kw_of x i) ∙ one-* (kw_of x i energy))
      ∙ plain (sum_of (λ i. kw_of x i energy) (upto c.resources)) (pos c.demand)

  market : (k : Curve) → T (has_curve c.version k) → slack c x (market_row k) ≡ sum_of (reserve_of c x k) (upto c.resources) -ℤ pos (x (cleared_quantity k))
  unfolding coefficient right_side
  market k t =
      slack_by (market_row k) (reserve_of c x k) (neg_ℤ (pos (x (cleared_quantity k)))) (cleared_term c.version (λ l. pos (x (cleared_quantity l))) k t) (λ i. reserve_term c.version (c.resource i) k (kw_of x i))
      ∙ ring (pos (x (cleared_quantity k))) (sum_of (reserve_of c x k) (upto c.resources))
    where
      ring : (a s : ℤ) → (neg_ℤ a +ℤ s) -ℤ pos 0 ≡ s -ℤ a
      ring a s = simp sorted (simp count (omega arith))

  zone : (z : ℕ) (k : Curve) → slack c x (zone_row z k) ≡ sum_of (reserve_in_zone c x z k) (upto c.resources) -ℤ pos (c.zone_requirement z k)
  unfolding coefficient right_side none
  zone z k =
      slack_by (zone_row z k) (reserve_in_zone c x z k) (pos 0) none_cleared
      (λ i.
      sum-cond-l (eqb (c.resource i).zone (suc z)) (λ s. in_reserve (c.resource i) k s) (kw_of x i) (services c.version)
      ∙ ap (λ (t : ℤ). cond (eqb (c.resource i).zone (suc z)) t (pos 0)) (reserve_term c.version (c.resource i) k (kw_of x i)))
      ∙ plain (sum_of (reserve_in_zone c x z k) (upto c.resources)) (pos (c.zone_requirement z k))

  flow : ℕ → ℕ → ℤ
  flow f i = c.shift_factor f i *ℤ kw_of x i energy

  flow_term : (f i : ℕ) → sum_of (λ s. neg_ℤ (entries (c.shift_factor f i) none none none none none none s) *ℤ kw_of x i s) (services c.version) ≡ neg_ℤ (flow f i)
  unfolding flow
  flow_term f i =
      sum-ext _ _ (λ s. neg-*ℤ (entries (c.shift_factor f i) none none none none none none s) (kw_of x i s)) (services c.version)
      ∙ sum-neg (λ s. entries (c.shift_factor f i) none none none none none none s *ℤ kw_of x i s) (services c.version)
      ∙ ap neg_ℤ (energy_term c.version (c.shift_factor f i) (kw_of x i))

  flowgate : (f : ℕ) → slack c x (flowgate_row f) ≡ pos 1000 *ℤ c.flowgate_limit f -ℤ sum_of (flow f) (upto c.resources)
  unfolding coefficient right_side
  flowgate f =
      slack_by (flowgate_row f) (λ i. neg_ℤ (flow f i)) (pos 0) none_cleared (flow_term f)
      ∙ rw (sum-neg (flow f) (upto c.resources)) (ring (sum_of (flow f) (upto c.resources)) (pos 1000 *ℤ c.flowgate_limit f))
    where
      ring : (s l : ℤ) → (pos 0 +ℤ neg_ℤ s) -ℤ neg_ℤ l ≡ l -ℤ s
      ring s l = simp sorted (simp count (omega arith))

  limited : (i : ℕ) (l : Limit) → i < c.resources → slack c x (limit_row i l) ≡ limit_term l (kw_of x i) -ℤ right_side c (limit_row i l)
  unfolding coefficient none
  limited i l h =
      slack_by (limit_row i l) (λ j. cond (eqb j i) (limit_term l (kw_of x j)) (pos 0)) (pos 0) none_cleared
      (λ j. sum-cond-l (eqb j i) (in_limit l) (kw_of x j) (services c.version) ∙ ap (λ (t : ℤ). cond (eqb j i) t (pos 0)) (limit_term_lem c.version l (kw_of x j)))
      ∙ ap (λ (t : ℤ). (pos 0 +ℤ t) -ℤ right_side c (limit_row i l)) (sum_pick (λ j. eqb j i) (λ j. limit_term l (kw_of x j)) i (same_number i) (λ j e. only_number j i e) c.resources h)
      ∙ plain (limit_term l (kw_of x i)) (right_side c (limit_row i l))

-- from 'at least' form back to 'at most'
turned : (a m : ℤ) → neg_ℤ a -ℤ neg_ℤ m ≡ m -ℤ a
turned a m = simp sorted (simp count (omega arith))

pub rows_in_words : (c : Case) (x : Schedule) → RowsInWords c x
unfolding right_side flow
rows_in_words c x =
    record {
      balance = balance c x;
      market = market c x;
      zone = zone c x;
      flowgate = flowgate c x;
      below_max = λ i h. limited c x i max_with_reserve h ∙ turned (kw_of x i energy +ℤ kw_of x i regulation +ℤ kw_of x i contingency) (pos (max_of (c.resource i)));
      below_max_short_term = λ i h. limited c x i max_with_short_term h ∙ turned (kw_of x i energy +ℤ kw_of x i on_line_short_term) (pos (max_of (c.resource i)));
      above_min = λ i h. limited c x i minimum h;
      below_high = λ i h. limited c x i high h ∙ turned (kw_of x i energy) (hi_of (c.resource i));
      above_low = λ i h. limited c x i low h;
    }
