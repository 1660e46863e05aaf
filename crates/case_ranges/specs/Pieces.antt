-- Ground 5 piece by piece, as the code tests it: parts of `resource_in_range` and `fields_in_range` of market's CaseCheck, and what
-- the tests ask of the places that they are given.
use Rattle.std.specs.Prelude.{Bool, ◌&&◌, List, ◌≡◌, ℕ, ◌+◌, ◌*◌}
use Rattle.arith.specs.Sums.{upto, all}
use Rattle.market.specs.Bytes.{u8_at, u32_at, i16_at, i32_at, within, either_way}
use Rattle.market.specs.Version.{version_in}
use Rattle.market.specs.Case.{Case, Resource, zoned_curves, curve_steps}
use Rattle.market.specs.declared.Curve.{Curve}
use Rattle.market.specs.CaseFile.{resource_size, flowgate_head_size, factor_size, zone_place}
use Rattle.market.specs.CaseCheck.{resource_in_range}
use Rattle.wire.specs.Within.{Within}

-- the n-th 32-bit number from a place on
abbrev pub number_at_most : ℕ → List ℕ → ℕ → ℕ → Bool
number_at_most most b at n = within 0 most (u32_at b (at + n * 4))

-- ---- parts of a resource's test
abbrev pub state_in_range : ℕ → Resource → Bool
state_in_range zones r =
    within 1 3 r.kind && within 1 zones r.zone && within 0 1 r.breaker && within 0 15 r.status && either_way 2000000 r.output

abbrev pub offer_step_in_range : Resource → ℕ → Bool
offer_step_in_range r j = within 0 2000000 (r.step_width j) && either_way 400000 (r.step_price j)

-- ---- parts of a case's
abbrev pub curve_step_in_range : Case → Curve → ℕ → Bool
curve_step_in_range c k j = within 0 8000000 (c.curve_width k j) && within 0 400000 (c.curve_price k j)

abbrev pub curve_in_range : Case → Curve → Bool
curve_in_range c k = all (curve_step_in_range c k) (upto curve_steps)

abbrev pub zone_in_range : Case → ℕ → Bool
zone_in_range c z = all (λ k. within 0 2000000 (c.zone_requirement z k)) zoned_curves

-- the resource of number i
abbrev pub resource_numbered_in_range : Case → ℕ → Bool
resource_numbered_in_range c i = resource_in_range c.zones (c.resource i)

-- ---- where they stand
-- so many resources lie within a file that counts so many zones
abbrev pub ResourcesIn : List ℕ → ℕ → ℕ → Type 0
ResourcesIn b resources zones = (zones ≡ u8_at b 6) × Within b (zone_place (version_in b) zones) (resources * resource_size (version_in b))

-- of the flowgate at a place: its i-th factor, and all of it with so many factors
abbrev pub factor_in_range : List ℕ → ℕ → ℕ → Bool
factor_in_range b at i = either_way 1000 (i16_at b (at + flowgate_head_size (version_in b) + i * factor_size))

abbrev pub flowgate_in_range_at : List ℕ → ℕ → ℕ → Bool
flowgate_in_range_at b at resources = either_way 20000000 (i32_at b at) && all (factor_in_range b at) (upto resources)
