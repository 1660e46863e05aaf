-- Energies in two parts each, e / 2048 and e % 2048, as they are kept in a list.
use Rattle.std.specs.Prelude.{◌≡◌, List, ℕ, ◌/◌, ◌%◌, ◌<◌, ◌≤◌, ℤ, pos, length, get_or}
use Rattle.market.specs.UpperBounds.{energy, provided_quantity}
use Rattle.market.specs.Certificate.{certificate_of}
use Rattle.flows.specs.declared.EnergyInParts.{EnergyInParts}

-- a signed 32-bit number is smaller
abbrev pub range32 : ℕ
range32 = 2147483648

-- what a certificate gives a resource, in kW
abbrev pub energy_of : List ℕ → ℕ → ℕ
energy_of q i = (certificate_of q).amount (provided_quantity i energy)

abbrev pub most_energy : ℕ
most_energy = 2000000

-- the energy that a certificate gives each of so many resources is at most 2,000,000 kW
pub record EnergyBounded (q : List ℕ) (resources : ℕ) : Type 0 where
  pub most : (i : ℕ) → i < resources → energy_of q i ≤ most_energy

-- an energy is high_unit × its high part + its low part, each at most most_part
abbrev pub high_unit : ℕ
high_unit = 2048

abbrev pub most_part : ℕ
most_part = 2047

abbrev pub high_of : ℕ → ℤ
high_of e = pos (e / high_unit)

abbrev pub low_of : ℕ → ℤ
low_of e = pos (e % high_unit)

abbrev pub in_parts : ℕ → EnergyInParts
in_parts e = record { high = high_of e; low = low_of e }

-- the energy of each of so many resources stands in a list
pub record EnergyParts (q : List ℕ) (resources : ℕ) (parts : List EnergyInParts) : Type 0 where
  pub long : resources ≤ length parts
  pub each : (i : ℕ) → i < resources → get_or parts i (in_parts 0) ≡ in_parts (energy_of q i)
