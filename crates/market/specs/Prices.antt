-- LMPs and zone prices, in thousandths of a cent (01, 'Certificate, cost, bound, charges').
use Rattle.std.specs.Prelude.{List, [], ◌∷◌, ◌++◌, map, ℕ, ◌+◌, ◌*◌, ℤ, ◌+ℤ◌, ◌*ℤ◌, ◌-ℤ◌}
use Rattle.arith.specs.Sums.{upto, sum_of, across}
use Rattle.market.specs.Case.{Case, Curve, operating, regulating_plus_spinning, regulating, short_term}
use Rattle.market.specs.Rows.{balance_row, market_row, zone_row, flowgate_row}
use Rattle.market.specs.Certificate.{Prices}

-- of a resource
unfoldable pub lmp_of : Case → Prices → ℕ → ℤ
lmp_of c y i = y balance_row -ℤ sum_of (λ f. y (flowgate_row f) *ℤ c.shift_factor f i) (upto c.flowgates)

-- each market row plus zone row
abbrev pub both_rows : Prices → ℕ → Curve → ℤ
both_rows y z k = y (market_row k) +ℤ y (zone_row z k)

unfoldable pub zone_supplemental_price : Prices → ℕ → ℤ
zone_supplemental_price y z = both_rows y z operating

unfoldable pub zone_spinning_price : Prices → ℕ → ℤ
zone_spinning_price y z = both_rows y z operating +ℤ both_rows y z regulating_plus_spinning

unfoldable pub zone_regulating_price : Prices → ℕ → ℤ
zone_regulating_price y z = both_rows y z operating +ℤ both_rows y z regulating_plus_spinning +ℤ both_rows y z regulating

unfoldable pub zone_short_term_price : Prices → ℕ → ℤ
zone_short_term_price y z = both_rows y z short_term

abbrev pub zone_price_count : ℕ
zone_price_count = 4

abbrev pub zone_prices : Prices → ℕ → List ℤ
zone_prices y z = zone_regulating_price y z ∷ zone_spinning_price y z ∷ zone_supplemental_price y z ∷ zone_short_term_price y z ∷ []

-- what the call for prices writes
unfoldable pub price_list : Case → Prices → List ℤ
price_list c y = map (lmp_of c y) (upto c.resources) ++ across (zone_prices y) (upto c.zones)

abbrev pub price_count_of : ℕ → ℕ → ℕ
price_count_of resources zones = resources + zone_price_count * zones

abbrev pub price_count : Case → ℕ
price_count c = price_count_of c.resources c.zones
