-- A resource's net prices by value: of its reserves, and the part of its energy's that all its steps share
-- (01, 'Certificate, cost, bound, charges').
use Rattle.std.specs.Prelude.{Bool, cond, ℕ, ℤ, pos, ◌+ℤ◌, ◌-ℤ◌, ◌*ℤ◌}
use Rattle.market.specs.declared.Millicents.{Millicents}
use Rattle.market.specs.declared.LimitPrices.{LimitPrices}
use Rattle.market.specs.declared.ReserveOffers.{ReserveOffers}
use Rattle.market.specs.Case.{Case}
use Rattle.market.specs.UpperBounds.{regulation, contingency, on_line_short_term, off_line_short_term}
use Rattle.market.specs.Certificate.{Prices}
use Rattle.market.specs.Cost.{priced_whole}
use Rattle.market.specs.Bound.{net_price}
use Rattle.market.specs.Prices.{lmp_of}
use Rattle.market.specs.InWords.{limit_prices}
use Rattle.market.specs.Records.{millicents}
use Rattle.prices.specs.declared.ZonePrices.{ZonePrices}
use Rattle.market.specs.declared.PerService.{PerService}

-- energy without an offer: a step adds 1000 × its price
unfoldable pub nets_of : Case → Prices → ℕ → PerService Millicents
nets_of c y i =
    record {
      energy = millicents (limit_prices y i -ℤ lmp_of c y i);
      regulation = millicents (net_price c y (priced_whole i regulation));
      contingency = millicents (net_price c y (priced_whole i contingency));
      on_line_short_term = millicents (net_price c y (priced_whole i on_line_short_term));
      off_line_short_term = millicents (net_price c y (priced_whole i off_line_short_term));
    }

-- ---- the same from what is read
-- the prices of a resource's own rows, as they stand against its energy
abbrev pub own_rows : LimitPrices → ℤ
own_rows prices = prices.max_with_reserve.0 +ℤ prices.max_with_short_term.0 -ℤ prices.minimum.0 +ℤ prices.high.0 -ℤ prices.low.0

-- an offer, against a price and with what the resource's own rows ask
abbrev pub reserve_net : ℤ → ℤ → ℤ → ℤ
reserve_net offer price own = pos 1000 *ℤ offer -ℤ price +ℤ own

unfoldable pub nets_from : ReserveOffers → Bool → LimitPrices → Millicents → ZonePrices → PerService Millicents
nets_from offers spins own lmp zone =
    record {
      energy = millicents (own_rows own -ℤ lmp.0);
      regulation = millicents (reserve_net offers.regulating.0 zone.regulating.0 (own.max_with_reserve.0 +ℤ own.minimum.0));
      contingency = millicents (reserve_net offers.contingency.0 (cond spins zone.spinning zone.supplemental).0 own.max_with_reserve.0);
      on_line_short_term = millicents (own.max_with_short_term.0 -ℤ zone.short_term.0);
      off_line_short_term = millicents (pos 1000 *ℤ offers.off_line_short_term.0 -ℤ zone.short_term.0);
    }
