-- From the tests of 3, 5, 6 and 7, of 12 and of 13 to the inequalities that are known past them.
use mathlib.Core.Path.{◌≡◌}
use mathlib.Core.List.{List}
use Prim.Native.Nat.{ℕ, ◌≤◌}
use native.Mathlib.Omega.{arith}
use lib.Dec.{T, leb→le}
use lib.IntN.{ℤ, pos}
use lib.Signed.{le_z}
use Rattle.arith.specs.Sums.{all}
use Rattle.arith.proofs.Parts.{le_in, plus_part-neg}
use Rattle.arith.proofs.Order.{≤ℤ-trans}
use Rattle.arith.proofs.Lists.{each_imp}
use Rattle.arith.proofs.AllTests.{and_split, all-each}
use Rattle.arith.proofs.Magnitudes.{Size, size_between}
use Rattle.market.specs.declared.Refusal.TheVariants.{AboveBound}
use Rattle.market.specs.Bytes.{within_ℤ}
use Rattle.market.specs.Case.{Case, Resource, Reserve, width_of, energy_steps}
use Rattle.market.specs.CaseFile.{case_of}
use Rattle.market.specs.CaseCheck.{CountsWithin, counts_right, fields_in_range, steps_rule, limits_ordered}
use Rattle.market.specs.UpperBounds.{quantities, upper_bound}
use Rattle.market.specs.Rows.{rows, Sense, equal, at_least, sense, Bounded}
use Rattle.market.specs.Certificate.{Certificate, highest_price, lowest_price}
use Rattle.market.specs.Refusals.{clear, first_failing}
use Rattle.market.specs.Outcome.{Valid, price_right, within_bound}
use Rattle.market.specs.Sizes.{most_power, most_cents, most_flowgate_limit, most_factor}
use Rattle.market.specs.CheckInWords.{EitherWay, ReserveWithin, ResourceWithin, PairsInOrder}
use Rattle.market.proofs.Grounds.{none_fails}
use Rattle.market.proofs.Families.{at_row}
use Rattle.market.proofs.LargestCase.{CountRanges}
pub use Rattle.market.proofs.KnownRanges.{ReserveRanges, ResourceRanges, CaseRanges, PriceRanges}
use Rattle.market.proofs.Passed.{case_passed}
use Rattle.market.proofs.Tests.{either_test}
use Rattle.market.proofs.CheckInWords.{check_in_words}

-- ---- from the words of 01
size_of : (n : ℕ) (v : ℤ) → EitherWay n v → Size v n
size_of n v h = size_between n v h.0 h.1

pub counts_most : (r z f : ℕ) → T (counts_right r z f) → CountsWithin r z f
counts_most r z f h = let n = (check_in_words.counts r z f).0 h in record { most_resources = n.0.1; most_zones = n.1.1; most_flowgates = n.2 }

pub count_ranges : (c : Case) → T (counts_right c.resources c.zones c.flowgates) → CountRanges c
count_ranges c = counts_most c.resources c.zones c.flowgates

reserve_ranges : (c : Case) (p : Reserve) → ReserveWithin c p → ReserveRanges c p
reserve_ranges c p h =
    record {
      multiplier_from = h.multiplier_within.0;
      multiplier_to = h.multiplier_within.1;
      minutes_from = h.minutes_within.0;
      minutes_to = h.minutes_within.1;
      share_to = h.share_within;
      requirement_to = h.requirement_within;
    }

resource_ranges : (zones : ℕ) (r : Resource) → ResourceWithin zones r → width_of r.step_width energy_steps ≤ most_power → PairsInOrder r → ResourceRanges zones r
resource_ranges zones r h widths pairs =
    let power = h.powers-within in
    let ramp = h.ramps_within in
    let price = h.prices_within in
    record {
      kind_from = h.kind_within.0;
      kind_to = h.kind_within.1;
      zone_from = h.zone_within.0;
      zone_to = h.zone_within.1;
      breaker_to = h.breaker_within;
      status_to = h.status_within;
      output_size = size_of most_power r.output h.output_within;
      economic_min = power.0;
      economic_max = power.1.0;
      regulating_min = power.1.1.0;
      regulating_max = power.1.1.1.0;
      emergency_min = power.1.1.1.1.0;
      emergency_max = power.1.1.1.1.1.0;
      initial_to = power.1.1.1.1.1.1.0;
      off_line_response = power.1.1.1.1.1.1.1.0;
      off_line_short_term = power.1.1.1.1.1.1.1.1.0;
      self_schedule = power.1.1.1.1.1.1.1.1.1.0;
      ramp_up = ramp.0;
      ramp_down = ramp.1.0;
      ramp_rate = ramp.1.1.0;
      regulating_price = price.0;
      contingency_price = price.1.0;
      off_line_short_term_price = price.1.1.0;
      step_width = λ j l. (h.steps_within j l).0;
      step_price = λ j l. size_of most_cents (r.step_price j) (h.steps_within j l).1;
      widths_to = widths;
      economic_ordered = pairs.economic_pair;
      regulating_ordered = pairs.regulating_pair;
      emergency_ordered = pairs.emergency_pair;
    }

-- 3, 5, 6 and 7
case_ranges : (c : Case) → T (counts_right c.resources c.zones c.flowgates) → T (fields_in_range c) → T (steps_rule c) → T (limits_ordered c) → CaseRanges c
case_ranges c counts fields steps pairs =
    let n = (check_in_words.counts c.resources c.zones c.flowgates).0 counts in
    let h = (check_in_words.fields c).0 fields in
    let s = (check_in_words.steps c).0 steps in
    let o = (check_in_words.pairs c).0 pairs in
    record {
      counts = count_ranges c counts;
      resources_from = n.0.0;
      zones_from = n.1.0;
      demand_to = h.demand_within;
      reserve = λ p. reserve_ranges c p (h.reserves_within p);
      curve_width = λ k m j l. (h.curves_within k m j l).0;
      curve_price = λ k m j l. (h.curves_within k m j l).1;
      zone_requirement = λ z k l m. h.zones_within z l k m;
      resource = λ i l. resource_ranges c.zones (c.resource i) (h.resources_within i l) (s.energy_widths i l) (o i l);
      flowgate_limit = λ f l. size_of most_flowgate_limit (c.flowgate_limit f) (h.flowgates_within f l).limit_within;
      shift_factor = λ f i l m. size_of most_factor (c.shift_factor f i) ((h.flowgates_within f l).factors_within i m);
    }

-- ---- of the bytes of a valid case
pub valid_ranges : (b : List ℕ) → Valid b → CaseRanges (case_of b)
valid_ranges b v =
    let p = case_passed b v in
    case_ranges (case_of b) p.counts_right p.fields_in_range p.steps_rule p.limits_ordered

-- ---- of a certificate, past 12
price_size : (s : Sense) (most : ℕ) (v : ℤ) → T (within_ℤ (lowest_price s most) (pos most) v) → Size v most
price_size equal most v h = size_of most v ((either_test most v).told h)
price_size at_least most v h =
    let r = and_split (le_z (pos 0) v) (le_z v (pos most)) h in
    size_between most v (≤ℤ-trans {b = pos 0} (le_in (omega (arith, plus_part-neg (pos most)))) (record { le = r.0 })) (record { le = r.1 })

pub price_ranges : (c : Case) (k : Certificate) → T (all (price_right k) (rows c)) → PriceRanges c k.price
price_ranges c k h =
    let right = all-each (price_right k) (rows c) h in
    record { price = λ r l. price_size (sense r) (highest_price r) (k.price r) (at_row c (λ r. T (price_right k r)) right r l) }

-- ---- past 13
pub bounded : (c : Case) (k : Certificate) → first_failing (within_bound c k) AboveBound 1 (quantities c) ≡ clear → Bounded c k.amount
bounded c k h = each_imp (λ q t. leb→le (k.amount q) (upper_bound c q) t) (quantities c) (none_fails (within_bound c k) AboveBound 1 (quantities c) h)
