-- Refusals 3, 5, 6, 7 and 12 in the words of 01 ('The case file', 'Certificate', 'How each operation refuses'): what each
-- test holds of, with the paper's figures. The steps' rule is one of any two steps.
use Rattle.std.specs.Prelude.{List, [], ◌∷◌, ◌↔◌, ◌≡◌, ℕ, ◌≤◌, ◌<◌, T, ℤ, pos, neg_ℤ, ◌≤ℤ◌}
use Rattle.arith.specs.Sums.{Each}
use Rattle.market.specs.Case.{Case, Resource, Curve, has_curve, zoned, Reserve, width_of}
use Rattle.market.specs.CaseCheck.{counts_right, fields_in_range, steps_rule, limits_ordered}
use Rattle.market.specs.Rows.{Limit, balance_row, market_row, zone_row, flowgate_row, limit_row}
use Rattle.market.specs.Certificate.{Certificate}
use Rattle.market.specs.Outcome.{price_right}

-- from low to high, both included
abbrev pub Between : ℕ → ℕ → ℕ → Type 0
Between low high n = (low ≤ n) × (n ≤ high)

-- at most n either way
abbrev pub EitherWay : ℕ → ℤ → Type 0
EitherWay n v = (neg_ℤ (pos n) ≤ℤ v) × (v ≤ℤ pos n)

abbrev pub UpTo : ℕ → ℤ → Type 0
UpTo n v = (pos 0 ≤ℤ v) × (v ≤ℤ pos n)

abbrev pub EachAtMost : ℕ → List ℕ → Type 0
EachAtMost most vs = Each (λ v. v ≤ most) vs

-- ---- 5: ranges
-- thousandths, minutes, thousandths, kW
pub record ReserveWithin (c : Case) (reserve : Reserve) : Type 0 where
  pub multiplier_within : Between 1 5000 (c.multiplier reserve)
  pub minutes_within : Between 1 60 (c.minutes reserve)
  pub share_within : c.share reserve ≤ 1000
  pub requirement_within : c.requirement reserve ≤ 8000000

pub record ResourceWithin (zones : ℕ) (r : Resource) : Type 0 where
  pub kind_within : Between 1 3 r.kind
  pub zone_within : Between 1 zones r.zone
  pub breaker_within : r.breaker ≤ 1
  -- status bits above 8 are zero
  pub status_within : r.status ≤ 15
  pub output_within : EitherWay 2000000 r.output
  pub powers-within :
      EachAtMost 2000000
      (r.economic_min ∷ r.economic_max ∷ r.regulating_min ∷ r.regulating_max ∷ r.emergency_min ∷ r.emergency_max
      ∷ r.initial ∷ r.off_line_response ∷ r.off_line_short_term ∷ r.self_schedule ∷ [])
  pub ramps_within : EachAtMost 400000 (r.ramp_up ∷ r.ramp_down ∷ r.ramp_rate ∷ [])
  pub prices_within : EachAtMost 400000 (r.regulating_price ∷ r.contingency_price ∷ r.off_line_short_term_price ∷ [])
  pub steps_within : (j : ℕ) → j < 10 → (r.step_width j ≤ 2000000) × EitherWay 400000 (r.step_price j)

pub record FlowgateWithin (c : Case) (f : ℕ) : Type 0 where
  pub limit_within : EitherWay 20000000 (c.flowgate_limit f)
  pub factors_within : (i : ℕ) → i < c.resources → EitherWay 1000 (c.shift_factor f i)

pub record FieldsWithin (c : Case) : Type 0 where
  pub demand_within : c.demand ≤ 128000000
  pub reserves_within : (reserve : Reserve) → ReserveWithin c reserve
  pub curves_within : (k : Curve) → T (has_curve c.version k) → (j : ℕ) → j < 4 → (c.curve_width k j ≤ 8000000) × (c.curve_price k j ≤ 400000)
  pub zones_within : (z : ℕ) → z < c.zones → (k : Curve) → T (zoned k) → c.zone_requirement z k ≤ 2000000
  pub resources_within : (i : ℕ) → i < c.resources → ResourceWithin c.zones (c.resource i)
  pub flowgates_within : (f : ℕ) → f < c.flowgates → FlowgateWithin c f

-- ---- 6: n steps of these widths and prices, of which any two may stand in this order
pub record StepsInOrder (May : ℤ → ℤ → Type 0) (w : ℕ → ℕ) (price : ℕ → ℤ) (n : ℕ) : Type 0 where
  -- steps of width 0 come last
  pub empty_last : (j j' : ℕ) → j < j' → j' < n → w j ≡ 0 → w j' ≡ 0
  -- with price 0
  pub empty_free : (j : ℕ) → j < n → w j ≡ 0 → price j ≡ pos 0
  pub prices_in_order_lem : (j j' : ℕ) → j < j' → j' < n → 0 < w j → 0 < w j' → May (price j) (price j')

abbrev pub NeverFall : ℤ → ℤ → Type 0
NeverFall price price' = price ≤ℤ price'

abbrev pub NeverRise : ℤ → ℤ → Type 0
NeverRise price price' = price' ≤ℤ price

pub record StepsKept (c : Case) : Type 0 where
  pub curve_steps : (k : Curve) → T (has_curve c.version k) → StepsInOrder NeverRise (c.curve_width k) (λ j. pos (c.curve_price k j)) 4
  pub energy_steps : (i : ℕ) → i < c.resources → StepsInOrder NeverFall (c.resource i).step_width (c.resource i).step_price 10
  pub energy_widths : (i : ℕ) → i < c.resources → width_of (c.resource i).step_width 10 ≤ 2000000

-- ---- 7: no minimum above its maximum
pub record PairsInOrder (r : Resource) : Type 0 where
  pub economic_pair : r.economic_min ≤ r.economic_max
  pub regulating_pair : r.regulating_min ≤ r.regulating_max
  pub emergency_pair : r.emergency_min ≤ r.emergency_max

pub record CheckInWords : Type 0 where
  -- R 1..64, Z 1..8, F 0..12
  pub counts : (r z f : ℕ) → T (counts_right r z f) ↔ (Between 1 64 r × Between 1 8 z × (f ≤ 12))
  pub fields : (c : Case) → T (fields_in_range c) ↔ FieldsWithin c
  pub steps : (c : Case) → T (steps_rule c) ↔ StepsKept c
  pub pairs : (c : Case) → T (limits_ordered c) ↔ ((i : ℕ) → i < c.resources → PairsInOrder (c.resource i))
  -- 12: row 1's price ±400,000,000, a flowgate's 0..400,000 cents, others 0..400,000,000
  pub balance_price : (d : Certificate) → T (price_right d balance_row) ↔ EitherWay 400000000 (d.price balance_row)
  pub flowgate_price : (d : Certificate) (f : ℕ) → T (price_right d (flowgate_row f)) ↔ UpTo 400000 (d.price (flowgate_row f))
  pub market_price : (d : Certificate) (k : Curve) → T (price_right d (market_row k)) ↔ UpTo 400000000 (d.price (market_row k))
  pub zone_price : (d : Certificate) (z : ℕ) (k : Curve) → T (price_right d (zone_row z k)) ↔ UpTo 400000000 (d.price (zone_row z k))
  pub limit_price : (d : Certificate) (i : ℕ) (l : Limit) → T (price_right d (limit_row i l)) ↔ UpTo 400000000 (d.price (limit_row i l))
