-- In the bytes of a case every record is there; a valid case's bytes are such, with its counts.
use mathlib.Core.Path.{◌≡◌}
use mathlib.Core.List.{List}
use Prim.Native.Nat.{ℕ, ◌<◌}
use native.Mathlib.Omega.{arith}
use native.Mathlib.Nat.{mul-le-mul_right}
use Rattle.market.specs.Bytes.{u8_at}
use Rattle.market.specs.Version.{version_in}
use Rattle.market.specs.CaseFile.{resource_size, case_of, head_size, flowgate_size, case_as}
use Rattle.market.specs.Outcome.{Valid}
use Rattle.wire.specs.Within.{Within}
use Rattle.wire.proofs.WholeCase.{valid_case}
use Rattle.case_records.specs.Places.{CaseBytes, ZoneIn, ResourceIn, FlowgateIn}

module _ {b : List ℕ} {r z f : ℕ} (whole : CaseBytes b r z f) where
  pub head_in : Within b 0 (head_size (version_in b))
  head_in = omega arith

  pub zone_in : (y : ℕ) → y < z → ZoneIn b y
  zone_in y h = omega arith

  pub resource_in : (i : ℕ) → i < r → ResourceIn b z i
  resource_in i h = (whole.zones, omega (arith, mul-le-mul_right (resource_size (version_in b)) h))

  pub flowgate_in : (g : ℕ) → g < f → FlowgateIn b r z g
  flowgate_in g h = record { resources = whole.resources; zones = whole.zones; within = omega (arith, mul-le-mul_right (flowgate_size (version_in b) r) h) }

  pub resources_is : r ≡ (case_of b).resources
  unfolding case_as
  resources_is = whole.resources

  pub zones_is : z ≡ (case_of b).zones
  unfolding case_as
  zones_is = whole.zones

  pub flowgates_is : f ≡ (case_of b).flowgates
  unfolding case_as
  flowgates_is = whole.flowgates

-- a valid case, with the counts of its bytes
pub valid_bytes : (b : List ℕ) → Valid b → CaseBytes b (u8_at b 5) (u8_at b 6) (u8_at b 7)
unfolding case_as
valid_bytes b v = valid_case b v

-- and with counts that are those
pub counted_bytes : (b : List ℕ) → Valid b → {r z f : ℕ} → r ≡ u8_at b 5 → z ≡ u8_at b 6 → f ≡ u8_at b 7 → CaseBytes b r z f
counted_bytes b v hr hz hf = rw (hr, hz, hf) (valid_bytes b v)
