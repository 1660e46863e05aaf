-- The tests of a family's rows on figures by value, in the words of 01, and the first that fails.
use Rattle.market.specs.declared.PerService.{PerService}
use Rattle.market.specs.declared.Kw.{Kw}
use Rattle.std.specs.Prelude.{Bool, List, [], ◌∷◌, ℕ, ◌+◌, ◌*◌, length, ◌+ℤ◌, ◌-ℤ◌}
use Rattle.std.specs.Int.Signed.{le_z}
use Rattle.market.specs.declared.Refusal.TheVariants.{RowBroken}
use Rattle.market.specs.declared.version.Version.{Version}
use Rattle.market.specs.Case.{all_curves}
use Rattle.market.specs.CaseFile.{case_of}
use Rattle.market.specs.CaseCheck.{most_resources, most_zones, most_flowgates}
use Rattle.market.specs.Rows.{Row, all_limits, system_row_count, zone_row_count}
use Rattle.market.specs.Certificate.{certificate_of}
use Rattle.market.specs.Refusals.{Finding, first_failing}
use Rattle.market.specs.Outcome.{row_met}
use Rattle.limits.specs.declared.ResourceLimits.{ResourceLimits}

-- what is found of rows, numbered from n on, of the case in b and the certificate in q
abbrev pub broken_from : List ℕ → List ℕ → ℕ → List Row → Finding
broken_from b q n rows = first_failing (row_met (case_of b) (certificate_of q)) RowBroken n rows

-- the number of the first row of the zones, of the flowgates behind so many zones, of the resources behind these and so many flowgates
abbrev pub first_zone_row : Version → ℕ
first_zone_row version = 1 + system_row_count version

abbrev pub first_flowgate_row : Version → ℕ → ℕ
first_flowgate_row version zones = first_zone_row version + zones * zone_row_count

abbrev pub first_limit_row : Version → ℕ → ℕ → ℕ
first_limit_row version zones flowgates = first_flowgate_row version zones + flowgates

-- no row of any version has a larger number
abbrev pub most_row : ℕ
most_row = 2 + length all_curves + most_zones * zone_row_count + most_flowgates + most_resources * length all_limits

-- e+g+c ≤ MAX, e+s ≤ MAX, e-g ≥ MIN, e ≤ HI, e ≥ LO
abbrev pub limit_tests : PerService Kw → ResourceLimits → List Bool
limit_tests amounts limits =
    le_z (amounts.energy.0 +ℤ amounts.regulation.0 +ℤ amounts.contingency.0) limits.max.0
    ∷ le_z (amounts.energy.0 +ℤ amounts.on_line_short_term.0) limits.max.0
    ∷ le_z limits.min.0 (amounts.energy.0 -ℤ amounts.regulation.0)
    ∷ le_z amounts.energy.0 limits.high.0
    ∷ le_z limits.low.0 amounts.energy.0
    ∷ []
