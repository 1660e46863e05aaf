-- The worked interval K and its certificate Q, as bytes, and changes of them (01, 'Worked interval'; 02, requests 2, 6 and 9).
use Rattle.std.specs.Prelude.{List, [], ◌∷◌, ◌++◌, ℕ, ◌+◌, ◌-◌, ◌*◌, length, take, drop, replicate}
use Rattle.arith.specs.Sums.{upto, across}
use Rattle.market.specs.Numbers.{u16_bytes, u32_bytes}

abbrev pub zeros : ℕ → List ℕ
zeros n = replicate n 0

abbrev pub worked_k : List ℕ
worked_k =
    u32_bytes 336 ++ (1 ∷ 1 ∷ 1 ∷ 0 ∷ []) ++ u32_bytes 60000
    ++ u16_bytes 1000 ++ u16_bytes 10 ++ u16_bytes 1000 ++ u16_bytes 10 ++ u16_bytes 1000 ++ u16_bytes 10
    ++ zeros 6 ++ zeros 12 ++ zeros 128 ++ zeros 16
    ++ (1 ∷ 1 ∷ 1 ∷ 0 ∷ 255 ∷ 0 ∷ []) ++ u32_bytes 50000
    ++ u32_bytes 20000 ++ u32_bytes 100000 ++ zeros 16 ++ u32_bytes 3000 ++ u32_bytes 3000 ++ u32_bytes 3000 ++ u32_bytes 50000 ++ zeros 24
    ++ u32_bytes 40000 ++ u32_bytes 2000 ++ u32_bytes 60000 ++ u32_bytes 3000 ++ zeros 64

abbrev pub worked_q : List ℕ
worked_q = u32_bytes 96 ++ (1 ∷ 1 ∷ 1 ∷ 0 ∷ []) ++ zeros 16 ++ u32_bytes 3000000 ++ zeros 16 ++ zeros 16 ++ u32_bytes 60000 ++ zeros 36

-- b with these bytes from the place on
abbrev pub change : ℕ → List ℕ → List ℕ → List ℕ
change at new b = take at b ++ (new ++ drop (at + length new) b)

-- -n in two's complement
abbrev pub minus32 : ℕ → List ℕ
minus32 n = u32_bytes (4294967296 - n)

-- where K's resource begins
abbrev pub resource_of_k : ℕ
resource_of_k = 186

abbrev pub demand_to : ℕ → List ℕ → List ℕ
demand_to n = change 8 (u32_bytes n)

abbrev pub output_to : List ℕ → List ℕ → List ℕ
output_to = change (resource_of_k + 6)

abbrev pub trip_to : ℕ → List ℕ → List ℕ
trip_to n = change (resource_of_k + 4) (n ∷ [])

abbrev pub kind2_committed : List ℕ → List ℕ
kind2_committed b = change resource_of_k (2 ∷ []) (change (resource_of_k + 3) (1 ∷ []) b)

-- available, with an active schedule
abbrev pub kind3_available : List ℕ → List ℕ
kind3_available b = change resource_of_k (3 ∷ []) (change (resource_of_k + 3) (6 ∷ []) b)

abbrev pub breaker_open : List ℕ → List ℕ
breaker_open = change (resource_of_k + 2) (0 ∷ [])

abbrev pub economic_max_to : ℕ → List ℕ → List ℕ
economic_max_to n = change (resource_of_k + 14) (u32_bytes n)

abbrev pub self_schedule_to : ℕ → List ℕ → List ℕ
self_schedule_to n = change (resource_of_k + 58) (u32_bytes n)

-- with flag 32
abbrev pub self_scheduled_to : ℕ → List ℕ → List ℕ
self_scheduled_to n b = change (resource_of_k + 5) (32 ∷ []) (self_schedule_to n b)

-- flags 4 and 8, off-line limits 30,000 and 20,000, and all of a contingency requirement of 25,000 as its largest share
abbrev pub offers_off_line : List ℕ → List ℕ
offers_off_line b =
    change 26 (u16_bytes 1000)
    (change 34 (u32_bytes 25000)
    (change (resource_of_k + 5) (12 ∷ [])
    (change (resource_of_k + 50) (u32_bytes 30000 ++ u32_bytes 20000) b)))

abbrev pub energy_to : ℕ → List ℕ → List ℕ
energy_to n = change 60 (u32_bytes n)

abbrev pub contingency_to : ℕ → List ℕ → List ℕ
contingency_to n = change 68 (u32_bytes n)

abbrev pub off_line_short_term_to : ℕ → List ℕ → List ℕ
off_line_short_term_to n = change 76 (u32_bytes n)

abbrev pub row1_to : ℕ → List ℕ → List ℕ
row1_to n = change 24 (u32_bytes n)

abbrev pub high_to : ℕ → List ℕ → List ℕ
high_to n = change 92 (u32_bytes n)

-- b with n flowgates, each of these bytes (a limit and a factor); q with n of these flowgate prices
abbrev pub flowgates_to : ℕ → List ℕ → List ℕ → List ℕ
flowgates_to n bytes b = change 0 (u32_bytes (336 + 6 * n)) (change 7 (n ∷ []) b) ++ across (λ f. bytes) (upto n)

abbrev pub flowgate_prices_to : ℕ → List ℕ → List ℕ → List ℕ
flowgate_prices_to n bytes q = change 0 (u32_bytes (96 + 4 * n)) (change 7 (n ∷ []) (take 60 q)) ++ (across (λ f. bytes) (upto n) ++ drop 60 q)

-- one flowgate, its limit 0, its factor -60; and its price 200 cents
abbrev pub gated_k : List ℕ
gated_k = flowgates_to 1 (u32_bytes 0 ++ u16_bytes (65536 - 60)) worked_k

abbrev pub gated_q : List ℕ
gated_q = flowgate_prices_to 1 (u32_bytes 200) worked_q

-- n flowgates of the largest limit and factor; their highest price, with row 1's lowest, so that the LMP is as low as they make it
abbrev pub gated : ℕ → List ℕ
gated n = flowgates_to n (u32_bytes 20000000 ++ u16_bytes 1000) worked_k

abbrev pub gated_at_highest : ℕ → List ℕ → List ℕ
gated_at_highest n q = flowgate_prices_to n (u32_bytes 400000) (change 24 (minus32 400000000) q)
