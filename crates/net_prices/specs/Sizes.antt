-- How large prices are from which net prices are made, and net prices, so that sums of them fit. The figures are those of
-- `market/specs/Sizes.antt`; here they are said of the records that the code reads and makes.
use Rattle.std.specs.Prelude.{◌+◌, ◌<◌, ◌≤◌, nat_abs}
use Rattle.market.specs.declared.Millicents.{Millicents}
use Rattle.market.specs.declared.Cents.{Cents}
use Rattle.market.specs.declared.LimitPrices.{LimitPrices}
use Rattle.market.specs.declared.ReserveOffers.{ReserveOffers}
use Rattle.market.specs.UpperBounds.{regulation, contingency, on_line_short_term, off_line_short_term}
use Rattle.market.specs.Fits.{range64}
use Rattle.market.specs.Sizes.{most_cents, most_price, most_lmp, most_regulating_price, most_spinning_price, most_supplemental_price, most_short_term_price, most_energy_rows, most_service_net}
use Rattle.prices.specs.declared.ZonePrices.{ZonePrices}
use Rattle.market.specs.declared.PerService.{PerService}

-- an offer, in cents. It stands in four clauses: steps and a resource's offers hold plain cents, so that a type with this fact would be
-- made at each of the seven calls that hand one over
abbrev pub SmallOffer : Cents → Type 0
SmallOffer p = nat_abs p.0 ≤ most_cents

-- the price of a row, in thousandths of a cent. A clause and no type says it: `market_prices` hands out four of them as one record that
-- equals `reserve_prices_of`; of prices with this fact it would be another record, with an equation for each of the four
abbrev pub SmallPrice : Millicents → Type 0
SmallPrice p = nat_abs p.0 ≤ most_price

-- ---- what is known of a resource's prices
pub record SmallOffers (offers : ReserveOffers) : Type 0 where
  pub regulating : SmallOffer offers.regulating
  pub contingency : SmallOffer offers.contingency
  pub off_line_short_term : SmallOffer offers.off_line_short_term

-- A clause and no type says it: of the three that ask it one hands what it was given to another, and two calls prove it (`nets_for`,
-- `valuations::resource_value`); a type would be made at these two and opened in all three.
pub record SmallLimitPrices (prices : LimitPrices) : Type 0 where
  pub max_with_reserve : SmallPrice prices.max_with_reserve
  pub max_with_short_term : SmallPrice prices.max_with_short_term
  pub minimum : SmallPrice prices.minimum
  pub high : SmallPrice prices.high
  pub low : SmallPrice prices.low

pub record SmallZonePrices (prices : ZonePrices) : Type 0 where
  pub regulating : nat_abs prices.regulating.0 ≤ most_regulating_price
  pub spinning : nat_abs prices.spinning.0 ≤ most_spinning_price
  pub supplemental : nat_abs prices.supplemental.0 ≤ most_supplemental_price
  pub short_term : nat_abs prices.short_term.0 ≤ most_short_term_price

abbrev pub SmallLmp : Millicents → Type 0
SmallLmp m = nat_abs m.0 ≤ most_lmp

-- an offer, a zone price that stands against it, and what the resource's own rows ask
abbrev pub NetRoom : Millicents → Millicents → Type 0
NetRoom zone own = (most_price + nat_abs zone.0 + nat_abs own.0) < range64

-- ---- and of its net prices
pub record SmallNets (nets : PerService Millicents) : Type 0 where
  pub energy : nat_abs nets.energy.0 ≤ most_energy_rows
  pub regulation : nat_abs nets.regulation.0 ≤ most_service_net regulation
  pub contingency : nat_abs nets.contingency.0 ≤ most_service_net contingency
  pub on_line_short_term : nat_abs nets.on_line_short_term.0 ≤ most_service_net on_line_short_term
  pub off_line_short_term : nat_abs nets.off_line_short_term.0 ≤ most_service_net off_line_short_term
