-- That a part of an energy is small, and that a sum of parts has 32 bits.
use mathlib.Core.Path.{◌≡◌}
use Prim.Native.Nat.{ℕ, ◌/◌, ◌%◌, ◌<◌, ◌≤◌}
use native.Mathlib.Nat.{mod-lt, div-le_of_le-mul}
use native.Mathlib.Omega.{arith}
use lib.IntN.{ℤ, nat_abs}
use mir.Syntax.{w32}
use mir.Val.{to_z, of_z}
use mir.Facts.{to_z-of_z}
use Rattle.arith.proofs.Magnitudes.{fits-abs}
use Rattle.flows.specs.Parts.{range32, most_energy, high_unit, most_part}

-- ---- the parts of an energy
pub high_small : (e : ℕ) → e ≤ most_energy → e / high_unit ≤ most_part
high_small e h = div-le_of_le-mul high_unit (omega arith)

pub low_small : (e : ℕ) → e ≤ most_energy → e % high_unit ≤ most_part
low_small e h = omega (arith, mod-lt e {m = high_unit} (omega arith))

-- ---- a sum
pub read_32 : {v : ℤ} → nat_abs v < range32 → to_z w32 (of_z w32 v) ≡ v
read_32 h = to_z-of_z (fits-abs {w = w32} h)
