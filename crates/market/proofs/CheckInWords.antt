-- What the tests of refusals 3, 5, 6, 7 and 12 hold of.
use Prim.Native.Nat.{ℕ, ◌≤◌, ◌<◌}
use lib.IntN.{pos}
use Rattle.market.specs.Case.{Case, Resource, Reserve}
use Rattle.market.specs.CaseCheck.{most_resources, most_zones, most_flowgates, counts_right, reserve_in_range, resource_in_range, flowgate_in_range, fields_in_range, pairs_ordered, limits_ordered, powers, ramps, reserve_prices}
use Rattle.market.specs.Rows.{balance_row, market_row, zone_row, flowgate_row, limit_row}
use Rattle.market.specs.CheckInWords.{Between, ReserveWithin, ResourceWithin, FlowgateWithin, FieldsWithin, PairsInOrder, CheckInWords}
use Rattle.market.proofs.Tests.{Decides, exactly, reworded, both, le_test, le_ℤ_test, between_test, most_test, either_test, each_test, below_test, curves_test, zoned_test, reserves_test}
use Rattle.market.proofs.StepOrder.{steps_rule_test}

counts_test : (r z f : ℕ) → Decides (counts_right r z f) (Between 1 most_resources r × Between 1 most_zones z × (f ≤ most_flowgates))
unfolding counts_right
counts_test r z f =
    reworded (both (both (between_test 1 most_resources r) (between_test 1 most_zones z)) (most_test most_flowgates f)) (λ h. (h.0.0, h.0.1, h.1)) (λ h. ((h.0, h.1), h.2))

-- ---- 5
reserve_test : (c : Case) (p : Reserve) → Decides (reserve_in_range c p) (ReserveWithin c p)
unfolding reserve_in_range
reserve_test c p =
    reworded (both (both (both (between_test 1 5000 (c.multiplier p)) (between_test 1 60 (c.minutes p))) (most_test 1000 (c.share p))) (most_test 8000000 (c.requirement p)))
    (λ h. record { multiplier_within = h.0.0.0; minutes_within = h.0.0.1; share_within = h.0.1; requirement_within = h.1 })
    (λ s. (((s.multiplier_within, s.minutes_within), s.share_within), s.requirement_within))

resource_test : (zones : ℕ) (r : Resource) → Decides (resource_in_range zones r) (ResourceWithin zones r)
unfolding resource_in_range
resource_test zones r =
    let head = both (both (both (both (between_test 1 3 r.kind) (between_test 1 zones r.zone)) (most_test 1 r.breaker)) (most_test 15 r.status)) (either_test 2000000 r.output) in
    let lists = both (both (both head (each_test (most_test 2000000) (powers r))) (each_test (most_test 400000) (ramps r))) (each_test (most_test 400000) (reserve_prices r)) in
    reworded (both lists (below_test (λ j. both (most_test 2000000 (r.step_width j)) (either_test 400000 (r.step_price j))) 10))
    (λ h.
    record {
      kind_within = h.0.0.0.0.0.0.0.0;
      zone_within = h.0.0.0.0.0.0.0.1;
      breaker_within = h.0.0.0.0.0.0.1;
      status_within = h.0.0.0.0.0.1;
      output_within = h.0.0.0.0.1;
      powers-within = h.0.0.0.1;
      ramps_within = h.0.0.1;
      prices_within = h.0.1;
      steps_within = h.1;
    })
    (λ s.
    ((((((((s.kind_within, s.zone_within), s.breaker_within), s.status_within), s.output_within), s.powers-within), s.ramps_within), s.prices_within), s.steps_within))

flowgate_test : (c : Case) (f : ℕ) → Decides (flowgate_in_range c f) (FlowgateWithin c f)
unfolding flowgate_in_range
flowgate_test c f =
    reworded (both (either_test 20000000 (c.flowgate_limit f)) (below_test (λ i. either_test 1000 (c.shift_factor f i)) c.resources))
    (λ h. record { limit_within = h.0; factors_within = h.1 })
    (λ s. (s.limit_within, s.factors_within))

fields_test : (c : Case) → Decides (fields_in_range c) (FieldsWithin c)
unfolding fields_in_range
fields_test c =
    let curve = curves_test c.version (λ k. below_test (λ j. both (most_test 8000000 (c.curve_width k j)) (most_test 400000 (c.curve_price k j))) 4) in
    let zone = below_test (λ z. zoned_test (λ k. most_test 2000000 (c.zone_requirement z k))) c.zones in
    let own = both (both (most_test 128000000 c.demand) (reserves_test (reserve_test c))) curve in
    reworded (both (both (both own zone) (below_test (λ i. resource_test c.zones (c.resource i)) c.resources)) (below_test (flowgate_test c) c.flowgates))
    (λ h.
    record {
      demand_within = h.0.0.0.0.0;
      reserves_within = h.0.0.0.0.1;
      curves_within = h.0.0.0.1;
      zones_within = h.0.0.1;
      resources_within = h.0.1;
      flowgates_within = h.1;
    })
    (λ s. (((((s.demand_within, s.reserves_within), s.curves_within), s.zones_within), s.resources_within), s.flowgates_within))

-- ---- 7
pairs_test : (r : Resource) → Decides (pairs_ordered r) (PairsInOrder r)
unfolding pairs_ordered
pairs_test r =
    reworded (both (both (le_test r.economic_min r.economic_max) (le_test r.regulating_min r.regulating_max)) (le_test r.emergency_min r.emergency_max))
    (λ h. record { economic_pair = h.0.0; regulating_pair = h.0.1; emergency_pair = h.1 })
    (λ s. ((s.economic_pair, s.regulating_pair), s.emergency_pair))

limits_test : (c : Case) → Decides (limits_ordered c) ((i : ℕ) → i < c.resources → PairsInOrder (c.resource i))
unfolding limits_ordered
limits_test c = below_test (λ i. pairs_test (c.resource i)) c.resources

pub check_in_words : CheckInWords
check_in_words =
    record {
      counts = λ r z f. exactly (counts_test r z f);
      fields = λ c. exactly (fields_test c);
      steps = λ c. exactly (steps_rule_test c);
      pairs = λ c. exactly (limits_test c);
      balance_price = λ k. exactly (either_test 400000000 (k.price balance_row));
      flowgate_price = λ k f. exactly (both (le_ℤ_test (pos 0) (k.price (flowgate_row f))) (le_ℤ_test (k.price (flowgate_row f)) (pos 400000)));
      market_price = λ k l. exactly (both (le_ℤ_test (pos 0) (k.price (market_row l))) (le_ℤ_test (k.price (market_row l)) (pos 400000000)));
      zone_price = λ k z l. exactly (both (le_ℤ_test (pos 0) (k.price (zone_row z l))) (le_ℤ_test (k.price (zone_row z l)) (pos 400000000)));
      limit_price = λ k i l. exactly (both (le_ℤ_test (pos 0) (k.price (limit_row i l))) (le_ℤ_test (k.price (limit_row i l)) (pos 400000000)));
    }
