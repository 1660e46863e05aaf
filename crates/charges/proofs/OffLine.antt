-- A resource that is not on-line: nothing fills its steps, whose upper bounds are 0, and their charges are 0.
use mathlib.Core.Path.{◌≡◌, refl, ◌∙◌}
use mathlib.Core.Bool.{false}
use mathlib.Core.List.{List, map}
use Prim.Native.Nat.{ℕ}
use lib.IntN.{pos, nat_abs, ◌+ℤ◌, ◌*ℤ◌, *ℤ-zero}
use lib.ListN.{replicate}
use Rattle.arith.specs.Sums.{min_ℤ, upto}
use Rattle.arith.proofs.Lists.{each-upto}
use Rattle.market.specs.declared.Kw.{Kw}
use Rattle.market.specs.declared.Millicents.{Millicents}
use Rattle.market.specs.declared.PerService.{PerService}
use Rattle.market.specs.declared.Step.{Step}
use Rattle.case_records.specs.Ranged.{offer_step}
use Rattle.limits.specs.Widths.{widths_of}
use Rattle.costs.proofs.OffLine.{nothing_filled}
use Rattle.charges.specs.Terms.{step_charge, energy_charge}
use Rattle.charges.proofs.Families.{map_same}

step_free : (nets : PerService Millicents) (step : Step) → step_charge nets false step (pos 0) ≡ pos 0
unfolding step_charge min_ℤ
step_free nets step = rw (*ℤ-zero (pos 1000 *ℤ step.price.0 +ℤ nets.energy.0)) refl

energy_free : (nets : PerService Millicents) (steps : List Step) (amount : Kw) → amount.0 ≡ pos 0 → (j : ℕ) → energy_charge nets false steps (nat_abs amount.0) j ≡ pos 0
energy_free nets steps amount e j = rw (e, nothing_filled (widths_of (offer_step steps)) j) (step_free nets (offer_step steps j))

nothing_charged : map (λ (j : ℕ). pos 0) (upto 10) ≡ replicate 10 (pos 0)
unfolding upto
nothing_charged = refl

pub off_line_charges : (nets : PerService Millicents) (steps : List Step) (amount : Kw) → amount.0 ≡ pos 0 → map (energy_charge nets false steps (nat_abs amount.0)) (upto 10) ≡ replicate 10 (pos 0)
off_line_charges nets steps amount e =
    map_same (energy_charge nets false steps (nat_abs amount.0)) (λ j. pos 0) (upto 10) (each-upto _ 10 (λ j l. energy_free nets steps amount e j)) ∙ nothing_charged
