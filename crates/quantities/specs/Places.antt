-- Places of 13: those of the cleared quantities, one for each curve, then each resource's.
use Rattle.std.specs.Prelude.{ℕ, ◌+◌, length}
use Rattle.market.specs.declared.version.Version.{Version}
use Rattle.market.specs.Case.{curves}
use Rattle.market.specs.UpperBounds.{services}

-- the place of the first resource's first quantity
abbrev pub first_provided : Version → ℕ
first_provided version = 1 + length (curves version)

abbrev pub places_each : Version → ℕ
places_each version = length (services version)
