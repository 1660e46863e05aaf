-- A certificate: an amount for each quantity and a price for each row; and its file, whose sizes and places follow from the version
-- (01, 'Certificate, cost, bound, charges').
use Rattle.std.specs.Prelude.{List, ℕ, ◌+◌, ◌*◌, length, ℤ, pos, neg_ℤ}
use Rattle.market.specs.Bytes.{u8_at, u32_at, i32_at}
use Rattle.market.specs.Version.{Version, version_in, more}
use Rattle.market.specs.Case.{has_curve, zoned, zoned_curves, curves, curve_number}
use Rattle.market.specs.UpperBounds.{Service, services, energy, regulation, contingency, on_line_short_term, off_line_short_term, ramping_up, ramping_down, charging, has_service, Quantity, cleared_quantity, provided_quantity, Schedule}
use Rattle.market.specs.Rows.{Row, balance_row, market_row, zone_row, flowgate_row, limit_row, Limit, limits, max_with_reserve, max_with_short_term, minimum, high, low, Sense, equal, at_least}

-- in thousandths of a cent; a flowgate's in cents, as its factors are in thousandths
abbrev pub Prices : Type 0
Prices = Row → ℤ

pub record Certificate : Type 0 where
  -- of the file that it came from
  pub version : Version
  pub resources : ℕ
  pub zones : ℕ
  pub flowgates : ℕ
  pub amount : Schedule
  pub price : Prices

-- ---- the size of each part in bytes, and the places that follow
-- where the price of row 1 stands: after length, version, counts and cleared quantities; and the prices of the market's other rows
abbrev pub balance_price_place : Version → ℕ
balance_price_place version = 8 + length (curves version) * 4

abbrev pub market_prices_place : Version → ℕ
market_prices_place version = balance_price_place version + 4

abbrev pub certificate_head_size : Version → ℕ
certificate_head_size version = market_prices_place version + length (curves version) * 4

-- a price for each curve
abbrev pub zone_prices_size : ℕ
zone_prices_size = length zoned_curves * 4

abbrev pub flowgate_price_size : ℕ
flowgate_price_size = 4

-- a resource's amounts, and the prices of its rows
abbrev pub entry_size : Version → ℕ
entry_size version = length (services version) * 4 + length (limits version) * 4

abbrev pub zone_prices_place : Version → ℕ → ℕ
zone_prices_place version z = certificate_head_size version + z * zone_prices_size

-- after so many zones
abbrev pub flowgate_price_place : Version → ℕ → ℕ → ℕ
flowgate_price_place version zones f = zone_prices_place version zones + f * flowgate_price_size

-- after so many zones and flowgates
abbrev pub amounts_place : Version → ℕ → ℕ → ℕ → ℕ
amounts_place version zones flowgates i = flowgate_price_place version zones flowgates + i * entry_size version

-- the file ends where one more resource's entries would stand
abbrev pub certificate_size : Version → ℕ → ℕ → ℕ → ℕ
certificate_size version r z f = amounts_place version z f r

-- a file under this is refused by 8, in every version
abbrev pub least_certificate_size : ℕ
least_certificate_size = 44

abbrev pub service_place : Service → ℕ
service_place energy = 0
service_place regulation = 4
service_place contingency = 8
service_place on_line_short_term = 12
service_place off_line_short_term = 16
service_place ramping_up = 20
service_place ramping_down = 24
service_place charging = 28

-- after the amounts of the services
abbrev pub limit_place : Version → Limit → ℕ
limit_place version max_with_reserve = length (services version) * 4
limit_place version max_with_short_term = length (services version) * 4 + 4
limit_place version minimum = length (services version) * 4 + 8
limit_place version high = length (services version) * 4 + 12
limit_place version low = length (services version) * 4 + 16

-- 0 of what the version has none of
unfoldable pub amount_at : Version → List ℕ → Quantity → ℕ
amount_at version q (cleared_quantity k) = more (has_curve version k) (u32_at q (8 + curve_number k * 4))
amount_at version q (provided_quantity i s) = more (has_service version s) (u32_at q (amounts_place version (u8_at q 6) (u8_at q 7) i + service_place s))

unfoldable pub price_at : Version → List ℕ → Row → ℤ
price_at version q balance_row = i32_at q (balance_price_place version)
price_at version q (market_row k) = pos (more (has_curve version k) (u32_at q (market_prices_place version + curve_number k * 4)))
price_at version q (zone_row z k) = pos (more (zoned k) (u32_at q (zone_prices_place version z + curve_number k * 4)))
price_at version q (flowgate_row f) = pos (u32_at q (flowgate_price_place version (u8_at q 6) f))
price_at version q (limit_row i l) = pos (u32_at q (amounts_place version (u8_at q 6) (u8_at q 7) i + limit_place version l))

-- the bytes q as a file of this version
unfoldable pub certificate_as : Version → List ℕ → Certificate
certificate_as version q = record { version = version; resources = u8_at q 5; zones = u8_at q 6; flowgates = u8_at q 7; amount = amount_at version q; price = price_at version q }

abbrev pub certificate_of : List ℕ → Certificate
certificate_of q = certificate_as (version_in q) q

-- the range of a row's price: row 1's may be negative
abbrev pub highest_price : Row → ℕ
highest_price balance_row = 400000000
highest_price (market_row k) = 400000000
highest_price (zone_row z k) = 400000000
highest_price (flowgate_row f) = 400000
highest_price (limit_row i l) = 400000000

abbrev pub lowest_price : Sense → ℕ → ℤ
lowest_price equal most = neg_ℤ (pos most)
lowest_price at_least most = pos 0
