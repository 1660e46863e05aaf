-- The tests behind refusals 1 to 7 (01, 'The case file', ranges; 'How each operation refuses').
use Rattle.std.specs.Prelude.{Bool, true, ◌&&◌, List, [], ◌∷◌, ℕ, zero, suc, ◌+◌, ◌-◌, ◌≤◌, length, leb, ltb, eqb, ℤ, pos}
use Rattle.std.specs.Int.Signed.{le_z}
use Rattle.arith.specs.Sums.{upto, all}
use Rattle.market.specs.Bytes.{u8_at, u32_at, within, within_ℤ, either_way}
use Rattle.market.specs.Version.{Version, known}
use Rattle.market.specs.Case.{Case, Resource, zoned_curves, curves, Reserve, reserves, width_of, energy_steps, curve_steps}
use Rattle.market.specs.CaseFile.{case_size}

-- ---- 3: the largest counts
abbrev pub most_resources : ℕ
most_resources = 64

abbrev pub most_zones : ℕ
most_zones = 8

-- 02, request 9: document 01 has 16
abbrev pub most_flowgates : ℕ
most_flowgates = 12

-- r, z and f are at most these. In code it is asked and carried by no type: `Counts` holds what any three bytes say, before 3 is tested,
-- and where a flowgate or a resource's amounts begin is asked with an index in one count's place.
pub record CountsWithin (r z f : ℕ) : Type 0 where
  pub most_resources : r ≤ most_resources
  pub most_zones : z ≤ most_zones
  pub most_flowgates : f ≤ most_flowgates

-- the largest file of a version
abbrev pub largest_case_size : Version → ℕ
largest_case_size version = case_size version most_resources most_zones most_flowgates

-- ---- 1 to 4
-- 1, and 8 of a certificate: at least so many bytes, and as many as the length field says
unfoldable pub length_right : ℕ → List ℕ → Bool
length_right least b = leb least (length b) && eqb (u32_at b 0 + 4) (length b)

-- 2, and 9 of a certificate
unfoldable pub version_right : List ℕ → Bool
version_right b = known (u8_at b 4)

-- 3
unfoldable pub counts_right : ℕ → ℕ → ℕ → Bool
counts_right r z f = within 1 most_resources r && within 1 most_zones z && within 0 most_flowgates f

-- 4
unfoldable pub case_size_right : List ℕ → Case → Bool
case_size_right b c = eqb (length b) (case_size c.version c.resources c.zones c.flowgates)

-- ---- 5: every field within its range
unfoldable pub reserve_in_range : Case → Reserve → Bool
reserve_in_range c reserve =
    within 1 5000 (c.multiplier reserve) && within 1 60 (c.minutes reserve) && within 0 1000 (c.share reserve) && within 0 8000000 (c.requirement reserve)

abbrev pub powers : Resource → List ℕ
powers r =
    r.economic_min ∷ r.economic_max ∷ r.regulating_min ∷ r.regulating_max ∷ r.emergency_min ∷ r.emergency_max
    ∷ r.initial ∷ r.off_line_response ∷ r.off_line_short_term ∷ r.self_schedule ∷ []

abbrev pub ramps : Resource → List ℕ
ramps r = r.ramp_up ∷ r.ramp_down ∷ r.ramp_rate ∷ []

abbrev pub reserve_prices : Resource → List ℕ
reserve_prices r = r.regulating_price ∷ r.contingency_price ∷ r.off_line_short_term_price ∷ []

unfoldable pub resource_in_range : ℕ → Resource → Bool
resource_in_range zones r =
    within 1 3 r.kind && within 1 zones r.zone && within 0 1 r.breaker && within 0 15 r.status && either_way 2000000 r.output
    && all (within 0 2000000) (powers r)
    && all (within 0 400000) (ramps r)
    && all (within 0 400000) (reserve_prices r)
    && all (λ j. within 0 2000000 (r.step_width j) && either_way 400000 (r.step_price j)) (upto energy_steps)

unfoldable pub flowgate_in_range : Case → ℕ → Bool
flowgate_in_range c f = either_way 20000000 (c.flowgate_limit f) && all (λ i. either_way 1000 (c.shift_factor f i)) (upto c.resources)

unfoldable pub fields_in_range : Case → Bool
fields_in_range c =
    within 0 128000000 c.demand
    && all (reserve_in_range c) reserves
    && all (λ k. all (λ j. within 0 8000000 (c.curve_width k j) && within 0 400000 (c.curve_price k j)) (upto curve_steps)) (curves c.version)
    && all (λ z. all (λ k. within 0 2000000 (c.zone_requirement z k)) zoned_curves) (upto c.zones)
    && all (λ i. resource_in_range c.zones (c.resource i)) (upto c.resources)
    && all (flowgate_in_range c) (upto c.flowgates)

-- ---- 6: steps of width 0 come last, with price 0; prices of neighbouring steps of width above 0 keep their order;
-- a resource's energy widths sum to at most 2,000,000

-- a step of this width and price, and the next, whose prices may stand in this order
unfoldable pub steps_follow : (ℤ → ℤ → Bool) → ℕ → ℤ → ℕ → ℤ → Bool
steps_follow may w price zero price' = within_ℤ (pos 0) (pos 0) price'
steps_follow may w price (suc w') price' = ltb 0 w && may price price'

unfoldable pub steps_right : (ℤ → ℤ → Bool) → (ℕ → ℕ) → (ℕ → ℤ) → ℕ → Bool
steps_right may w price n =
    steps_follow (λ v v'. true) 1 (pos 0) (w 0) (price 0)
    && all (λ j. steps_follow may (w j) (price j) (w (j + 1)) (price (j + 1))) (upto (n - 1))

-- energy prices never fall
abbrev pub never_falls : ℤ → ℤ → Bool
never_falls price price' = le_z price price'

-- curve prices never rise
abbrev pub never_rises : ℤ → ℤ → Bool
never_rises price price' = le_z price' price

unfoldable pub energy_steps_right : Resource → Bool
energy_steps_right r = steps_right never_falls r.step_width r.step_price energy_steps && leb (width_of r.step_width energy_steps) 2000000

unfoldable pub steps_rule : Case → Bool
steps_rule c =
    all (λ k. steps_right never_rises (c.curve_width k) (λ j. pos (c.curve_price k j)) curve_steps) (curves c.version)
    && all (λ i. energy_steps_right (c.resource i)) (upto c.resources)

-- ---- 7: no minimum above its maximum
unfoldable pub pairs_ordered : Resource → Bool
pairs_ordered r = leb r.economic_min r.economic_max && leb r.regulating_min r.regulating_max && leb r.emergency_min r.emergency_max

unfoldable pub limits_ordered : Case → Bool
limits_ordered c = all (λ i. pairs_ordered (c.resource i)) (upto c.resources)
