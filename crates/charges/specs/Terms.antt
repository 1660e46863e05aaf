-- The charges of what is priced: from the bytes, and from the records that are read of them (01, 'Certificate, cost, bound,
-- charges').
use Rattle.market.specs.declared.PerService.{PerService}
use Rattle.std.specs.Prelude.{Bool, List, [], ◌∷◌, map, ℕ, ℤ, pos, nat_abs, ◌+ℤ◌, ◌-ℤ◌, ◌*ℤ◌}
use Rattle.arith.specs.Sums.{upto}
use Rattle.market.specs.declared.Kw.{Kw}
use Rattle.market.specs.declared.Millicents.{Millicents}
use Rattle.market.specs.declared.Step.{Step}
use Rattle.market.specs.CaseFile.{case_of}
use Rattle.market.specs.Certificate.{certificate_of}
use Rattle.market.specs.Cost.{Priced, priced_of, filled}
use Rattle.market.specs.Charges.{priced_charge}
use Rattle.case_records.specs.Ranged.{offer_step, curve_step}
use Rattle.limits.specs.declared.ReserveBounds.{ReserveBounds}
use Rattle.bounds.specs.Terms.{least_of, step_bound}
use Rattle.limits.specs.Widths.{widths_of}
use Rattle.charges.specs.declared.ClearedCurve.{ClearedCurve}

-- ---- of the bytes
abbrev pub charge_in : List ℕ → List ℕ → Priced → ℤ
charge_in b q = priced_charge (case_of b) (certificate_of q).amount (certificate_of q).price

-- of resource i: ten steps, g, c, s, o
abbrev pub resource_charges : List ℕ → List ℕ → ℕ → List ℤ
resource_charges b q i = map (charge_in b q) (priced_of (case_of b).version i)

-- ---- of records
-- net price × amount, less the lesser of 0 and net price × upper bound
abbrev pub charge_of : ℤ → ℤ → ℤ → ℤ
charge_of net amount upper = net *ℤ amount -ℤ least_of net upper

-- an energy step with the amount that fills it
unfoldable pub step_charge : (PerService Millicents) → Bool → Step → ℤ → ℤ
step_charge nets on step amount = charge_of (pos 1000 *ℤ step.price.0 +ℤ nets.energy.0) amount (step_bound on step.width).0

-- step j, with an amount in kW filled into the steps in order
abbrev pub energy_charge : (PerService Millicents) → Bool → (List Step) → ℕ → ℕ → ℤ
energy_charge nets on offered amount j = step_charge nets on (offer_step offered j) (pos (filled (widths_of (offer_step offered)) amount j))

-- g, c, s, o
unfoldable pub reserve_charges : (PerService Millicents) → (PerService Kw) → ReserveBounds → List ℤ
reserve_charges nets amounts bounds =
    charge_of nets.regulation.0 amounts.regulation.0 bounds.regulation.0
    ∷ charge_of nets.contingency.0 amounts.contingency.0 bounds.contingency.0
    ∷ charge_of nets.on_line_short_term.0 amounts.on_line_short_term.0 bounds.on_line_short_term.0
    ∷ charge_of nets.off_line_short_term.0 amounts.off_line_short_term.0 bounds.off_line_short_term.0
    ∷ []

-- a step of a curve whose market row has the price
unfoldable pub curve_step_charge : Millicents → Step → ℤ → ℤ
curve_step_charge price step amount = charge_of (price.0 -ℤ pos 1000 *ℤ step.price.0) amount step.width.0

-- step j, with an amount in kW filled into the steps in order
abbrev pub curve_charge : Millicents → (List Step) → ℕ → ℕ → ℤ
curve_charge price curve amount j = curve_step_charge price (curve_step curve j) (pos (filled (widths_of (curve_step curve)) amount j))

-- of a curve's four steps, with the price of its market row and its cleared quantity
abbrev pub curve_charges : ClearedCurve → List ℤ
curve_charges own = map (curve_charge own.price own.curve.steps (nat_abs own.cleared.0)) (upto 4)
