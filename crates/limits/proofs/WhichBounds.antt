-- The upper bounds of a resource's four reserves, by which of the three it is.
use mathlib.Core.Path.{◌≡◌, refl}
use Rattle.market.specs.Case.{Case, Resource as Figures}
use Rattle.market.specs.Availability.{availability_of}
use Rattle.market.specs.UpperBounds.{bound_when, service_bound}
use Rattle.market.specs.Records.{power}
use Rattle.market.specs.declared.Availability.{Availability}
use Rattle.market.specs.declared.Availability.TheVariants.{Tripped}
use Rattle.limits.specs.Together.{reserve_bounds_when, reserve_bounds_of}
use Rattle.limits.specs.declared.ReserveBounds.{ReserveBounds}

pub bounds_when : (c : Case) (s : Figures) {a : Availability} → a ≡ availability_of s → reserve_bounds_when a c s ≡ reserve_bounds_of c s
unfolding reserve_bounds_when reserve_bounds_of service_bound
bounds_when c s e = rw e

abbrev none : ReserveBounds
none = record { regulation = power 0; contingency = power 0; on_line_short_term = power 0; off_line_short_term = power 0 }

pub tripped_bounds : (c : Case) (s : Figures) → reserve_bounds_when Tripped c s ≡ none
unfolding reserve_bounds_when bound_when
tripped_bounds c s = refl
