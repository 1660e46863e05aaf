-- Ground 12 piece by piece, as the code tests it: the prices of a zone's rows and of a resource's rows by their places.
use Rattle.std.specs.Prelude.{Bool, List, ℕ, ◌+◌, ◌*◌, length}
use Rattle.arith.specs.Sums.{upto, all}
use Rattle.market.specs.Version.{version_in}
use Rattle.market.specs.Case.{zoned_curves}
use Rattle.market.specs.UpperBounds.{services}
use Rattle.market.specs.Rows.{limits}
use Rattle.market.specs.Certificate.{zone_prices_place, amounts_place}
use Rattle.case_ranges.specs.Pieces.{number_at_most}

-- the four rows of a zone
abbrev pub zone_priced : List ℕ → ℕ → Bool
zone_priced q zone = all (number_at_most 400000000 q (zone_prices_place (version_in q) zone)) (upto (length zoned_curves))

-- the five rows of resource i, in a file of so many zones and flowgates
abbrev pub limits_priced : List ℕ → ℕ → ℕ → ℕ → Bool
limits_priced q z f i = all (number_at_most 400000000 q (amounts_place (version_in q) z f i + length (services (version_in q)) * 4)) (upto (length (limits (version_in q))))
