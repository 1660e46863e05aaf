-- The upper bound of energy, of which two of the three cases have the same: by whether the resource is on-line.
use mathlib.Core.Bool.{cond}
use mathlib.Core.Path.{◌≡◌, refl}
use Prim.Native.Nat.{ℕ, ◌≤◌}
use Rattle.market.specs.Case.{Case, Resource, width_of, energy_steps}
use Rattle.market.specs.Availability.{availability_of, is_on_line, on_line}
use Rattle.market.specs.UpperBounds.{energy, bound_when, service_bound}
use Rattle.market.specs.declared.Availability.{Availability}
use Rattle.market.specs.declared.Availability.TheVariants.{OnLine, OffLine, Tripped}

energy_when : (a : Availability) (c : Case) (r : Resource) → bound_when a c r energy ≡ cond (is_on_line a) (width_of r.step_width energy_steps) 0
unfolding bound_when
energy_when OnLine c r = refl
energy_when OffLine c r = refl
energy_when Tripped c r = refl

pub energy_bound_is : (c : Case) (r : Resource) → service_bound c r energy ≡ cond (on_line r) (width_of r.step_width energy_steps) 0
unfolding service_bound on_line
energy_bound_is c r = energy_when (availability_of r) c r

pub energy_within : (c : Case) (r : Resource) {n : ℕ} → n ≤ service_bound c r energy → n ≤ cond (on_line r) (width_of r.step_width energy_steps) 0
energy_within c r h = rw (energy_bound_is c r) at h
