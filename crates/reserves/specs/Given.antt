-- Amounts and sums for the reserve rows, by value, and what their additions ask for.
use Rattle.market.specs.declared.PerService.{PerService}
use Rattle.market.specs.declared.PerCurve.{PerCurve}
use Rattle.std.specs.Prelude.{List, map, ℕ, ◌+ℤ◌}
use Rattle.arith.specs.Sums.{sum_of, upto}
use Rattle.market.specs.declared.Kw.{Kw}
use Rattle.market.specs.Case.{Case}
use Rattle.market.specs.CaseFile.{case_of}
use Rattle.market.specs.CaseCheck.{most_zones}
use Rattle.market.specs.UpperBounds.{Schedule}
use Rattle.market.specs.Certificate.{certificate_of}
use Rattle.market.specs.InWords.{reserve_of, reserve_in_zone}
use Rattle.market.specs.Records.{kw, curve_amounts_of}
use Rattle.units.specs.Room.{SumRoom}
use Rattle.reserves.specs.declared.ZonedAmounts.{ZonedAmounts}

-- g+c, g+spin, g, s+o
unfoldable pub given_by : PerService Kw → Kw → PerCurve Kw
given_by amounts spin =
    record {
      operating = kw (amounts.regulation.0 +ℤ amounts.contingency.0);
      regulating_plus_spinning = kw (amounts.regulation.0 +ℤ spin.0);
      regulating = amounts.regulation;
      short_term = kw (amounts.on_line_short_term.0 +ℤ amounts.off_line_short_term.0);
    }

-- with the zone of the resource that gives it
unfoldable pub zoned_amounts_of : Case → Schedule → ℕ → ZonedAmounts
zoned_amounts_of c x i = record { zone = (c.resource i).zone; amounts = curve_amounts_of (λ k. reserve_of c x k i) }

-- the sums of two, row by row
pub record SumsRoom (amounts amounts' : PerCurve Kw) : Type 0 where
  pub operating : SumRoom amounts.operating.0 amounts'.operating.0
  pub regulating_plus_spinning : SumRoom amounts.regulating_plus_spinning.0 amounts'.regulating_plus_spinning.0
  pub regulating : SumRoom amounts.regulating.0 amounts'.regulating.0
  pub short_term : SumRoom amounts.short_term.0 amounts'.short_term.0

unfoldable pub added_amounts : PerCurve Kw → PerCurve Kw → PerCurve Kw
added_amounts amounts amounts' =
    record {
      operating = kw (amounts.operating.0 +ℤ amounts'.operating.0);
      regulating_plus_spinning = kw (amounts.regulating_plus_spinning.0 +ℤ amounts'.regulating_plus_spinning.0);
      regulating = kw (amounts.regulating.0 +ℤ amounts'.regulating.0);
      short_term = kw (amounts.short_term.0 +ℤ amounts'.short_term.0);
    }

-- ---- what the first n resources give, of the case in b and the certificate in q
abbrev pub market_total : List ℕ → List ℕ → ℕ → PerCurve Kw
market_total b q n = curve_amounts_of (λ k. sum_of (reserve_of (case_of b) (certificate_of q).amount k) (upto n))

-- to a zone, counted from 0
abbrev pub zone_total : List ℕ → List ℕ → ℕ → ℕ → PerCurve Kw
zone_total b q n z = curve_amounts_of (λ k. sum_of (reserve_in_zone (case_of b) (certificate_of q).amount z k) (upto n))

-- to each of eight zones, which is as many as a case may have
abbrev pub zone_totals : List ℕ → List ℕ → ℕ → List (PerCurve Kw)
zone_totals b q n = map (zone_total b q n) (upto most_zones)
