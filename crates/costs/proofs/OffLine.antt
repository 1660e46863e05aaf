-- A resource that is not on-line: its energy is 0, and 0 kW fill no step.
use mathlib.Core.Path.{◌≡◌}
use mathlib.Core.Bool.{false}
use mathlib.Core.List.{List}
use Prim.Native.Nat.{ℕ, ◌<◌, ◌≤◌}
use native.Mathlib.Omega.{arith}
use Rattle.market.specs.CaseFile.{case_of}
use Rattle.market.specs.Availability.{on_line}
use Rattle.market.specs.UpperBounds.{provided_quantity, energy, upper_bound}
use Rattle.market.specs.Certificate.{certificate_of}
use Rattle.market.specs.Cost.{filled}
use Rattle.market.proofs.Families.{at_quantity}
use Rattle.market.proofs.EnergyBounds.{energy_within}
use Rattle.prices.specs.Standing.{Standing}
use Rattle.prices.proofs.Known.{resource_below}

pub nothing_filled : (w : ℕ → ℕ) (j : ℕ) → filled w 0 j ≡ 0
unfolding filled
nothing_filled w j = omega arith

-- past ground 13
pub no_energy : {b q : List ℕ} {r z f : ℕ} → Standing b q r z f → (i : ℕ) → i < r → on_line ((case_of b).resource i) ≡ false → (certificate_of q).amount (provided_quantity i energy) ≡ 0
unfolding upper_bound
no_energy {b} {q} s i l off =
    let c = case_of b in
    let x = (certificate_of q).amount in
    let below = energy_within c (c.resource i) (at_quantity c (λ a. x a ≤ upper_bound c a) s.bounded (provided_quantity i energy) (resource_below s.prices l, tt)) in
    let none : x (provided_quantity i energy) ≤ 0 = rw off at below in
    omega arith
