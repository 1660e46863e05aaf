-- How large the figures are from which charges are made, so that each charge fits. The figures are those of
-- `market/specs/Sizes.antt`; here they are said of the records that the code reads.
use Rattle.std.specs.Prelude.{ℕ, ◌+◌, ◌*◌, ◌<◌, ◌≤◌, nat_abs}
use Rattle.market.specs.declared.Kw.{Kw}
use Rattle.market.specs.declared.Millicents.{Millicents}
use Rattle.market.specs.declared.Step.{Step}
use Rattle.market.specs.Fits.{range64}
use Rattle.case_records.specs.Ranged.{UpTo}
use Rattle.units.specs.Room.{ProductRoom}
use Rattle.net_prices.specs.Sizes.{SmallPrice}
use Rattle.bounds.specs.Sizes.{SmallStep}
use Rattle.costs.specs.Steps.{most_in_steps}
use Rattle.charges.specs.declared.ClearedCurve.{ClearedCurve}

-- a net price times an amount, times an upper bound, and both together
pub record ChargeRoom (net : Millicents) (amount upper : Kw) : Type 0 where
  pub added : ProductRoom net.0 amount.0
  pub least : ProductRoom net.0 upper.0
  pub together : (nat_abs net.0 * nat_abs amount.0 + nat_abs net.0 * nat_abs upper.0) < range64

-- ---- a resource
-- a step, at most so wide, and what fills it
pub record StepRoom (this : Step) (amount : Kw) (widest : ℕ) : Type 0 where
  pub step : SmallStep this widest
  pub part : nat_abs amount.0 ≤ widest

-- ---- a curve: the price of its market row and its cleared quantity
pub record CurveRoom (price : Millicents) (amount : Kw) : Type 0 where
  pub row_price : SmallPrice price
  pub cleared : UpTo amount.0 most_in_steps

abbrev pub ClearedRoom : ClearedCurve → Type 0
ClearedRoom own = CurveRoom own.price own.cleared
