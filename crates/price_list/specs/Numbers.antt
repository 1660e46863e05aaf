-- A zone's prices as the numbers that are written.
use Rattle.std.specs.Prelude.{List, [], ◌∷◌, ℤ}
use Rattle.prices.specs.declared.ZonePrices.{ZonePrices}

-- regulating, spinning, supplemental, short-term
abbrev pub numbers_of : ZonePrices → List ℤ
numbers_of prices = prices.regulating.0 ∷ prices.spinning.0 ∷ prices.supplemental.0 ∷ prices.short_term.0 ∷ []
