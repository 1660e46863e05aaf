-- Lines are numbered from 1: one more than a small place, as the machine finds it.
use mathlib.Core.Path.{◌≡◌, refl, ◌∙◌}
use Prim.Native.Nat.{ℕ, suc, ◌<◌}
use native.Mathlib.Numerals.{add-one}
use native.Mathlib.Omega.{arith}
use lib.IntN.{ℤ, pos, ◌+ℤ◌}
use mir.Syntax.{w64}
use mir.Val.{SFits, to_z, of_z}
use mir.Facts.{to_z-of_z}
use Rattle.arith.proofs.Machine.{small_bits}
use Rattle.arith.proofs.Magnitudes.{fits-abs}

pub next_fits : (n : ℕ) → n < 64 → SFits w64 (to_z w64 n +ℤ pos 1)
next_fits n h = rw (small_bits n (omega arith)) (fits-abs {w = w64} (omega arith))

pub next_number : (n : ℕ) → n < 64 → to_z w64 (of_z w64 (to_z w64 n +ℤ pos 1)) ≡ pos (suc n)
next_number n h = to_z-of_z (next_fits n h) ∙ rw (small_bits n (omega arith), add-one) refl

-- a number is read back from its bits as it is
abbrev pub Kept : ℤ → Type 0
Kept v = to_z w64 (of_z w64 v) ≡ v
