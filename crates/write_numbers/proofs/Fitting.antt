-- Numbers that fit their fields: unsigned ones are what the code's casts make of them.
use mathlib.Core.Path.{◌≡◌, refl, sym, ap, subst}
use mathlib.Core.Bool.{Bool, true, false}
use mathlib.Core.List.{[], ◌∷◌}
use Prim.Native.Nat.{ℕ, ◌%◌, ◌≤◌}
use native.Mathlib.Nat.{mod-eq_of_lt}
use native.Mathlib.Omega.{arith}
use lib.Dec.{T}
use lib.IntN.{ℤ, pos, negsuc, nat_abs}
use lib.Signed.{le_z, ◌≤ℤ◌}
use Rattle.arith.proofs.Order.{zl}
use Rattle.arith.proofs.AllTests.{and_split}
use Rattle.market.specs.Bytes.{within_ℤ}
use Rattle.market.specs.Numbers.{u8, u16, u32, u16_bytes, u32_bytes, field_bytes}
use Rattle.write_numbers.specs.Listed.{Fits}

pub is_true : (t : Bool) → T t → t ≡ true
is_true true h = refl
is_true false h = absurd h

-- ---- a number of a range
module _ (low high v : ℤ) (e : within_ℤ low high v ≡ true) where
  pub from_low : low ≤ℤ v
  from_low = record { le = (and_split (le_z low v) (le_z v high) (subst T (sym e) tt)).0 }

  pub to_high : v ≤ℤ high
  to_high = record { le = (and_split (le_z low v) (le_z v high) (subst T (sym e) tt)).1 }

-- from 0 on it is its own size
pub plain_within : (high : ℕ) (v : ℤ) → within_ℤ (pos 0) (pos high) v ≡ true → (v ≡ pos (nat_abs v)) × (nat_abs v ≤ high)
plain_within high (pos n) e = let h = to_high (pos 0) (pos high) (pos n) e in (refl, omega zl)
plain_within high (negsuc n) e = absurd (from_low (pos 0) (pos high) (negsuc n) e).le

-- ---- the bytes of unsigned fields
pub u8_plain : (v : ℤ) → Fits u8 v → field_bytes u8 v ≡ nat_abs v ∷ []
unfolding field_bytes
u8_plain (pos n) h = let l = plain_within 255 (pos n) h.fits in let small : n % 256 ≡ n = mod-eq_of_lt (omega arith) in ap (λ (m : ℕ). m ∷ []) small
u8_plain (negsuc n) h = absurd (from_low (pos 0) (pos 255) (negsuc n) h.fits).le

pub u16_plain : (v : ℤ) → Fits u16 v → field_bytes u16 v ≡ u16_bytes (nat_abs v)
unfolding field_bytes
u16_plain (pos n) h = refl
u16_plain (negsuc n) h = absurd (from_low (pos 0) (pos 65535) (negsuc n) h.fits).le

pub u32_plain : (v : ℤ) → Fits u32 v → field_bytes u32 v ≡ u32_bytes (nat_abs v)
unfolding field_bytes
u32_plain (pos n) h = refl
u32_plain (negsuc n) h = absurd (from_low (pos 0) (pos 4294967295) (negsuc n) h.fits).le

pub ruleset unsigned_bytes = (u8_plain, u16_plain, u32_plain)
