-- Figures in grains: how large they can be.
use mathlib.Core.Path.{◌≡◌, ap, ◌∙◌}
use mathlib.Core.Bool.{Bool, true, false}
use Prim.Native.Nat.{ℕ, ◌*◌, ◌<◌, ◌≤◌}
use native.Mathlib.Nat.{mul-le-mul}
use native.Mathlib.Omega.{arith}
use lib.IntN.{ℤ, nat_abs}
use Rattle.market.specs.declared.Grains.{Grains}
use Rattle.market.specs.declared.Kw.{Kw}
use Rattle.market.specs.Records.{grains}
use Rattle.market.specs.Fits.{range64}
use Rattle.units.specs.Room.{ProductRoom}
use Rattle.units.specs.Sized.{Sized}
use Rattle.bounds.specs.Terms.{step_bound}

pub sized_is : {g : Grains} {v : ℤ} {most : ℕ} → g ≡ grains v → nat_abs v ≤ most → Sized g.0 v most
sized_is e h = record { is = ap (λ (x : Grains). x.0) e; size = rw e h }

-- a figure under another name, and of a wider range
pub sized_as : {g : Grains} {v w : ℤ} {m n : ℕ} → Sized g.0 v m → v ≡ w → m ≤ n → Sized g.0 w n
sized_as h e l = record { is = h.is ∙ e; size = omega arith }

-- ---- products
-- each factor within its figure: the product fits
pub product_room : {a b : ℤ} {m n : ℕ} → nat_abs a ≤ m → nat_abs b ≤ n → m < range64 → n < range64 → m * n < range64 → ProductRoom a b
product_room h k l r p = record { left = omega arith; right = omega arith; product = omega (arith, mul-le-mul h k) }

-- a step of a resource that is not on-line
pub step_bound_most : (on : Bool) (w : Kw) → nat_abs (step_bound on w).0 ≤ nat_abs w.0
step_bound_most true w = omega arith
step_bound_most false w = omega arith
