-- A search among tests, and among pairs of figures.
use Rattle.std.specs.Prelude.{Bool, true, false, Option, Some, None, List, [], ◌∷◌, ℕ, suc}
use Rattle.std.specs.Int.Signed.{le_z}
use Rattle.market.specs.declared.Kw.{Kw}
use Rattle.market.specs.declared.PerCurve.{PerCurve}

-- the first test that is false, by its number, counted from n
unfoldable pub first_false : ℕ → List Bool → Option ℕ
first_false n [] = None
first_false n (true ∷ ts) = first_false (suc n) ts
first_false n (false ∷ ts) = Some n

-- the first of the pair is at least the second
abbrev pub reaches : Kw × Kw → Bool
reaches pair = le_z pair.1.0 pair.0.0

-- for each curve, there is at least what is needed
abbrev pub short_tests : PerCurve Kw → PerCurve Kw → List Bool
short_tests have need =
    le_z need.operating.0 have.operating.0
    ∷ le_z need.regulating_plus_spinning.0 have.regulating_plus_spinning.0
    ∷ le_z need.regulating.0 have.regulating.0
    ∷ le_z need.short_term.0 have.short_term.0
    ∷ []
