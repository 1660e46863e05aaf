-- What a sum, a difference and a product of signed 64-bit figures ask for, so that they fit.
use Rattle.std.specs.Prelude.{◌+◌, ◌*◌, ◌<◌, ℤ, nat_abs}
use Rattle.market.specs.Fits.{range64}

abbrev pub SumRoom : ℤ → ℤ → Type 0
SumRoom v v' = (nat_abs v + nat_abs v') < range64

pub record ProductRoom (v v' : ℤ) : Type 0 where
  pub left : nat_abs v < range64
  pub right : nat_abs v' < range64
  pub product : (nat_abs v * nat_abs v') < range64
