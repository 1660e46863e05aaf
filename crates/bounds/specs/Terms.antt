-- The terms of the bound: from the bytes, and from the records that are read of them (01, 'Certificate, cost, bound, charges').
use Rattle.market.specs.declared.PerCurve.{PerCurve}
use Rattle.std.specs.Prelude.{Bool, cond, List, ℕ, ℤ, pos, ◌+ℤ◌, ◌-ℤ◌, ◌*ℤ◌}
use Rattle.arith.specs.Sums.{min_ℤ, sum_of}
use Rattle.market.specs.declared.Kw.{Kw}
use Rattle.market.specs.declared.Millicents.{Millicents}
use Rattle.market.specs.declared.Step.{Step}
use Rattle.market.specs.declared.LimitPrices.{LimitPrices}
use Rattle.market.specs.Case.{zoned_curves}
use Rattle.market.specs.CaseFile.{case_of}
use Rattle.market.specs.Rows.{Row, zone_row, flowgate_row, limit_row, limits, right_side}
use Rattle.market.specs.Certificate.{certificate_of}
use Rattle.market.specs.Cost.{Priced, priced_of}
use Rattle.market.specs.Bound.{lowest}
use Rattle.market.specs.Records.{power}
use Rattle.limits.specs.declared.ReserveBounds.{ReserveBounds}
use Rattle.limits.specs.declared.ResourceLimits.{ResourceLimits}
use Rattle.market.specs.declared.PerService.{PerService}

-- ---- of the bytes
-- row price × right side
abbrev pub row_term : List ℕ → List ℕ → Row → ℤ
row_term b q row = (certificate_of q).price row *ℤ right_side (case_of b) row

-- the lesser of 0 and net price × upper bound
abbrev pub priced_term : List ℕ → List ℕ → Priced → ℤ
priced_term b q = lowest (case_of b) (certificate_of q).price

-- of a zone's rows, a flowgate's, a resource's; and of what is priced of a resource
abbrev pub zone_terms : List ℕ → List ℕ → ℕ → ℤ
zone_terms b q z = sum_of (λ k. row_term b q (zone_row z k)) zoned_curves

abbrev pub flowgate_term : List ℕ → List ℕ → ℕ → ℤ
flowgate_term b q f = row_term b q (flowgate_row f)

abbrev pub limit_terms : List ℕ → List ℕ → ℕ → ℤ
limit_terms b q i = sum_of (λ l. row_term b q (limit_row i l)) (limits (case_of b).version)

abbrev pub least_terms : List ℕ → List ℕ → ℕ → ℤ
least_terms b q i = sum_of (priced_term b q) (priced_of (case_of b).version i)

-- of a resource: of its rows, and of what is priced of it
abbrev pub resource_terms : List ℕ → List ℕ → ℕ → ℤ
resource_terms b q i = limit_terms b q i +ℤ least_terms b q i

-- ---- of records
-- the rows of a zone: prices × requirements
unfoldable pub zone_value : (PerCurve Millicents) → (PerCurve Kw) → ℤ
zone_value prices requirements =
    prices.operating.0 *ℤ requirements.operating.0 +ℤ (prices.regulating_plus_spinning.0 *ℤ requirements.regulating_plus_spinning.0 +ℤ (prices.regulating.0 *ℤ requirements.regulating.0 +ℤ prices.short_term.0 *ℤ requirements.short_term.0))

-- the rows of a resource: those from below less those from above
unfoldable pub limit_value : LimitPrices → ResourceLimits → ℤ
limit_value prices limits =
    prices.minimum.0 *ℤ limits.min.0 +ℤ prices.low.0 *ℤ limits.low.0
    -ℤ (prices.max_with_reserve.0 *ℤ limits.max.0 +ℤ prices.max_with_short_term.0 *ℤ limits.max.0 +ℤ prices.high.0 *ℤ limits.high.0)

-- the least that a quantity between 0 and its upper bound adds at its net price
abbrev pub least_of : ℤ → ℤ → ℤ
least_of net upper = min_ℤ (pos 0) (net *ℤ upper)

-- an energy step's upper bound is its width, or 0 if its resource is not on-line
abbrev pub step_bound : Bool → Kw → Kw
step_bound on width = cond on width (power 0)

unfoldable pub step_least : (PerService Millicents) → Bool → Step → ℤ
step_least nets on step = least_of (pos 1000 *ℤ step.price.0 +ℤ nets.energy.0) (step_bound on step.width).0

unfoldable pub reserves_least : (PerService Millicents) → ReserveBounds → ℤ
reserves_least nets bounds =
    least_of nets.regulation.0 bounds.regulation.0
    +ℤ (least_of nets.contingency.0 bounds.contingency.0
    +ℤ (least_of nets.on_line_short_term.0 bounds.on_line_short_term.0
    +ℤ least_of nets.off_line_short_term.0 bounds.off_line_short_term.0))

-- a step of a curve whose market row has the price
unfoldable pub curve_step_least : Millicents → Step → ℤ
curve_step_least price step = least_of (price.0 -ℤ pos 1000 *ℤ step.price.0) step.width.0
