-- What amounts are worth at their prices in cents.
use Rattle.market.specs.declared.PerService.{PerService}
use Rattle.market.specs.declared.Kw.{Kw}
use Rattle.std.specs.Prelude.{ℕ, ℤ, pos, ◌*ℤ◌, ◌+ℤ◌}
use Rattle.arith.specs.Sums.{sum_of, upto}
use Rattle.market.specs.Case.{Case, curve_steps}
use Rattle.market.specs.declared.Curve.{Curve}
use Rattle.market.specs.UpperBounds.{Schedule}
use Rattle.market.specs.Cost.{Priced, priced_curve_step, priced_of, offer, part}
use Rattle.market.specs.declared.ReserveOffers.{ReserveOffers}
use Rattle.costs.specs.declared.ThousandGrains.{ThousandGrains}

abbrev pub thousands : ℤ → ThousandGrains
thousands v = record { 0 = v }

-- of what is priced: its part at its offer
abbrev pub worth_of : Case → Schedule → Priced → ℤ
worth_of c x p = offer c p *ℤ pos (part c x p)

-- of a resource: its energy steps, g, c, s and o
abbrev pub resource_worth : Case → Schedule → ℕ → ℤ
resource_worth c x i = sum_of (worth_of c x) (priced_of c.version i)

-- of a curve: what its steps take off the cost
unfoldable pub curve_value : Case → Schedule → Curve → ℤ
curve_value c x k = sum_of (λ j. pos (c.curve_price k j) *ℤ pos (part c x (priced_curve_step k j))) (upto curve_steps)

-- g, c and o at their prices
unfoldable pub reserves_worth : ReserveOffers → (PerService Kw) → ℤ
reserves_worth p a =
    p.regulating.0 *ℤ a.regulation.0 +ℤ (p.contingency.0 *ℤ a.contingency.0 +ℤ p.off_line_short_term.0 *ℤ a.off_line_short_term.0)
