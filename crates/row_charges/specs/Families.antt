-- The charges of rows from the records that are read of a case and a certificate, family by family, and what they ask for, so
-- that they fit (01, 'Rows', 'Certificate, cost, bound, charges').
use Rattle.market.specs.declared.PerService.{PerService}
use Rattle.market.specs.declared.PerCurve.{PerCurve}
use Rattle.market.specs.declared.Millicents.{Millicents}
use Rattle.market.specs.declared.Kw.{Kw}
use Rattle.std.specs.Prelude.{List, [], ◌∷◌, ℕ, ℤ, ◌+ℤ◌, ◌-ℤ◌, ◌*ℤ◌}
use Rattle.market.specs.declared.LimitPrices.{LimitPrices}
use Rattle.market.specs.CaseFile.{case_of}
use Rattle.market.specs.Rows.{Row}
use Rattle.market.specs.Certificate.{certificate_of}
use Rattle.market.specs.Charges.{row_charge}
use Rattle.limits.specs.declared.ResourceLimits.{ResourceLimits}
use Rattle.units.specs.Room.{SumRoom, ProductRoom}

-- a row's charge, of the case in b and the certificate in q
abbrev pub row_charge_in : List ℕ → List ℕ → Row → ℤ
row_charge_in b q = row_charge (case_of b) (certificate_of q).amount (certificate_of q).price

-- a row's price, and the sides whose difference is its slack
pub record RowChargeRoom (price more less : ℤ) : Type 0 where
  pub sides : SumRoom more less
  pub product : ProductRoom price (more -ℤ less)

-- ---- four reserve rows
abbrev pub four_charges : (PerCurve Millicents) → (PerCurve Kw) → (PerCurve Kw) → List ℤ
four_charges prices have need =
    (prices.operating.0 *ℤ (have.operating.0 -ℤ need.operating.0))
    ∷ (prices.regulating_plus_spinning.0 *ℤ (have.regulating_plus_spinning.0 -ℤ need.regulating_plus_spinning.0))
    ∷ (prices.regulating.0 *ℤ (have.regulating.0 -ℤ need.regulating.0))
    ∷ (prices.short_term.0 *ℤ (have.short_term.0 -ℤ need.short_term.0))
    ∷ []

pub record FourRoom (prices : (PerCurve Millicents)) (have need : (PerCurve Kw)) : Type 0 where
  pub operating : RowChargeRoom prices.operating.0 have.operating.0 need.operating.0
  pub regulating_plus_spinning : RowChargeRoom prices.regulating_plus_spinning.0 have.regulating_plus_spinning.0 need.regulating_plus_spinning.0
  pub regulating : RowChargeRoom prices.regulating.0 have.regulating.0 need.regulating.0
  pub short_term : RowChargeRoom prices.short_term.0 have.short_term.0 need.short_term.0

-- ---- the five rows of a resource: e+g+c ≤ MAX, e+s ≤ MAX, e-g ≥ MIN, e ≤ HI, e ≥ LO
abbrev pub five_charges : LimitPrices → (PerService Kw) → ResourceLimits → List ℤ
five_charges prices amounts limits =
    (prices.max_with_reserve.0 *ℤ (limits.max.0 -ℤ (amounts.energy.0 +ℤ amounts.regulation.0 +ℤ amounts.contingency.0)))
    ∷ (prices.max_with_short_term.0 *ℤ (limits.max.0 -ℤ (amounts.energy.0 +ℤ amounts.on_line_short_term.0)))
    ∷ (prices.minimum.0 *ℤ (amounts.energy.0 -ℤ amounts.regulation.0 -ℤ limits.min.0))
    ∷ (prices.high.0 *ℤ (limits.high.0 -ℤ amounts.energy.0))
    ∷ (prices.low.0 *ℤ (amounts.energy.0 -ℤ limits.low.0))
    ∷ []

pub record FiveRoom (prices : LimitPrices) (given : (PerService Kw)) (limits : ResourceLimits) : Type 0 where
  pub max_with_reserve : RowChargeRoom prices.max_with_reserve.0 limits.max.0 (given.energy.0 +ℤ given.regulation.0 +ℤ given.contingency.0)
  pub max_with_short_term : RowChargeRoom prices.max_with_short_term.0 limits.max.0 (given.energy.0 +ℤ given.on_line_short_term.0)
  pub minimum : RowChargeRoom prices.minimum.0 (given.energy.0 -ℤ given.regulation.0) limits.min.0
  pub high : RowChargeRoom prices.high.0 limits.high.0 given.energy.0
  pub low : RowChargeRoom prices.low.0 given.energy.0 limits.low.0
