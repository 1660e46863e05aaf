-- Fields that stand one after the other in a resource's record, and whose figures stand at a place.
use mathlib.Core.Path.{◌≡◌, refl}
use mathlib.Core.Bool.{◌&&◌}
use mathlib.Core.List.{List, [], ◌∷◌}
use Prim.Native.Nat.{ℕ, ◌+◌}
use native.Mathlib.Nat.{add_assoc}
use Rattle.arith.specs.Sums.{upto, all}
use Rattle.arith.proofs.AllTests.{and_assoc, and_true}
use Rattle.market.specs.Bytes.{u32_at, within, u8_at}
use Rattle.market.specs.Version.{version_in}
use Rattle.market.specs.Case.{Resource, reserves, curves}
use Rattle.market.specs.CaseFile.{resource_at, resource_in, behind_flags, behind_minimum, flowgate_place, case_of, zone_place, resource_place, case_as}
use Rattle.market.specs.CaseCheck.{powers, ramps, reserve_prices, reserve_in_range, flowgate_in_range, fields_in_range, resource_in_range}
use Rattle.wire.specs.CaseBytes.{CaseBytes}
use Rattle.case_ranges.specs.Pieces.{number_at_most, curve_in_range, zone_in_range, resource_numbered_in_range, flowgate_in_range_at}

-- all powers but the three pairs of limits
unfoldable pub other_powers_of : Resource → List ℕ
other_powers_of r = r.initial ∷ r.off_line_response ∷ r.off_line_short_term ∷ r.self_schedule ∷ []

-- the resource at p, and the largest number allowed
module _ (b : List ℕ) (p most : ℕ) where
  abbrev flagged : ℕ → ℕ
  flagged offset = p + behind_flags (version_in b) offset

  abbrev limited : ℕ → ℕ
  limited offset = p + behind_minimum (version_in b) offset

  pub starts_run : all (number_at_most most b (limited 42)) (upto 4) ≡ all (within 0 most) (other_powers_of (resource_in b p))
  unfolding all upto resource_at other_powers_of
  starts_run = simp add_assoc

  -- the emergency minimum stands alone: not every version has it
  pub powers_runs : all (within 0 most) (powers (resource_in b p)) ≡ (all (number_at_most most b (flagged 10)) (upto 4) && within 0 most (resource_in b p).emergency_min && within 0 most (u32_at b (limited 26)) && all (number_at_most most b (limited 42)) (upto 4))
  unfolding all upto resource_at
  powers_runs = simp (add_assoc, and_assoc, and_true)

  pub ramps_run : all (within 0 most) (ramps (resource_in b p)) ≡ all (number_at_most most b (limited 30)) (upto 3)
  unfolding all upto resource_at
  ramps_run = simp add_assoc

  pub prices_run : all (within 0 most) (reserve_prices (resource_in b p)) ≡ all (number_at_most most b (limited 58)) (upto 3)
  unfolding all upto resource_at
  prices_run = simp add_assoc

-- four numbers one behind the other are a zone's requirements
pub zone_run : (b : List ℕ) (z : ℕ) → all (number_at_most 2000000 b (zone_place (version_in b) z)) (upto 4) ≡ zone_in_range (case_of b) z
unfolding case_as all upto
zone_run b z = refl

-- what stands at resource i's place is the case's resource
pub resource_is : (b : List ℕ) {z : ℕ} → z ≡ u8_at b 6 → (i : ℕ) → resource_in b (resource_place (version_in b) z i) ≡ (case_of b).resource i
unfolding case_as
resource_is b h i = rw h

pub resource_here : (b : List ℕ) {z : ℕ} → z ≡ u8_at b 6 → (i : ℕ) → resource_in_range z (resource_in b (resource_place (version_in b) z i)) ≡ resource_numbered_in_range (case_of b) i
unfolding case_as
resource_here b h i = rw h

-- and at flowgate f's place, the case's flowgate
pub flowgate_here : {b : List ℕ} {r z n : ℕ} → CaseBytes b r z n → (f : ℕ) → flowgate_in_range_at b (flowgate_place (version_in b) r z f) r ≡ flowgate_in_range (case_of b) f
unfolding case_as flowgate_in_range
flowgate_here h f = rw (h.resources, h.zones)

-- ground 5 as the code goes through it
pub fields_in_turn : {b : List ℕ} {r z f : ℕ} → CaseBytes b r z f → fields_in_range (case_of b) ≡ (within 0 128000000 (u32_at b 8) && all (reserve_in_range (case_of b)) reserves && all (curve_in_range (case_of b)) (curves (version_in b)) && all (zone_in_range (case_of b)) (upto z) && all (resource_numbered_in_range (case_of b)) (upto r) && all (flowgate_in_range (case_of b)) (upto f))
unfolding fields_in_range case_as
fields_in_turn {b} h = rw (h.resources, h.zones, h.flowgates)
