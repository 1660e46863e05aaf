-- What is decided once of each resource, and kept in one list (01, 'Before the rows').
use Rattle.std.specs.Prelude.{◌≡◌, Some, List, ℕ, ◌<◌, ◌≤◌, length, slice_get}
use Rattle.market.specs.Case.{Case, Resource}
use Rattle.market.specs.Availability.{on_line}
use Rattle.market.specs.Rows.{is_spinning}
use Rattle.limits.specs.Together.{limits_of, reserve_bounds_of}
use Rattle.capabilities.specs.declared.Capability.{Capability}

unfoldable pub capability_of : Case → Resource → Capability
capability_of c r = record { on_line = on_line r; spinning = is_spinning r; limits = limits_of r; bounds = reserve_bounds_of c r }

-- of each of r resources, what is decided of it stands at its place
pub record Kept (c : Case) (r : ℕ) (kept : List Capability) : Type 0 where
  pub room : r ≤ length kept
  pub each : (i : ℕ) → i < r → slice_get kept i ≡ Some (capability_of c (c.resource i))
