-- A zone's prices by value.
use Rattle.market.specs.declared.PerCurve.{PerCurve}
use Rattle.market.specs.declared.Millicents.{Millicents}
use Rattle.std.specs.Prelude.{ℕ, ◌≤◌, nat_abs, ◌+ℤ◌}
use Rattle.market.specs.Certificate.{Prices}
use Rattle.market.specs.Prices.{zone_regulating_price, zone_spinning_price, zone_supplemental_price, zone_short_term_price}
use Rattle.market.specs.Records.{millicents}
use Rattle.prices.specs.declared.ZonePrices.{ZonePrices}

unfoldable pub zone_prices_of : Prices → ℕ → ZonePrices
zone_prices_of y z =
    record {
      regulating = millicents (zone_regulating_price y z);
      spinning = millicents (zone_spinning_price y z);
      supplemental = millicents (zone_supplemental_price y z);
      short_term = millicents (zone_short_term_price y z);
    }

-- prices of rows, each in its range
pub record SmallPrices (prices : (PerCurve Millicents)) : Type 0 where
  pub operating : nat_abs prices.operating.0 ≤ 400000000
  pub regulating_plus_spinning : nat_abs prices.regulating_plus_spinning.0 ≤ 400000000
  pub regulating : nat_abs prices.regulating.0 ≤ 400000000
  pub short_term : nat_abs prices.short_term.0 ≤ 400000000

-- the market rows' prices and a zone's
unfoldable pub added_prices : (PerCurve Millicents) → (PerCurve Millicents) → ZonePrices
added_prices market zone =
    record {
      regulating = millicents (market.operating.0 +ℤ zone.operating.0 +ℤ (market.regulating_plus_spinning.0 +ℤ zone.regulating_plus_spinning.0) +ℤ (market.regulating.0 +ℤ zone.regulating.0));
      spinning = millicents (market.operating.0 +ℤ zone.operating.0 +ℤ (market.regulating_plus_spinning.0 +ℤ zone.regulating_plus_spinning.0));
      supplemental = millicents (market.operating.0 +ℤ zone.operating.0);
      short_term = millicents (market.short_term.0 +ℤ zone.short_term.0);
    }
