-- The rows, numbered from 1, and one table: a quantity's coefficient in a row and the row's right side, every row written
-- 'at least' with all quantities on its left (01, 'Rows', 'Certificate, cost, bound, charges').
use Rattle.std.specs.Prelude.{Bool, true, cond, ◌&&◌, List, [], ◌∷◌, ◌++◌, map, ◌≡◌, ℕ, suc, ◌+◌, ◌*◌, ◌≤◌, length, eqb, ℤ, pos, negsuc, neg_ℤ, ◌*ℤ◌, ◌-ℤ◌, ◌≤ℤ◌}
use Rattle.arith.specs.Sums.{upto, sum_of, Each, across}
use Rattle.market.specs.Version.{Version}
use Rattle.market.specs.Bits.{spinning_flag}
use Rattle.market.specs.Case.{Case, Resource, Curve, operating, regulating_plus_spinning, regulating, short_term, zoned_curves, curves, curve_number}
use Rattle.market.specs.Availability.{on_line}
use Rattle.market.specs.Limits.{max_of, min_of, hi_of, lo_of}
use Rattle.market.specs.UpperBounds.{Service, energy, regulation, contingency, on_line_short_term, off_line_short_term, ramping_up, ramping_down, charging, Quantity, cleared_quantity, provided_quantity, quantities, Schedule, upper_bound}

-- the five rows of a resource: e+g+c ≤ MAX, e+s ≤ MAX, e-g ≥ MIN, e ≤ HI, e ≥ LO
pub data Limit : Type 0 where
  max_with_reserve max_with_short_term minimum high low : Limit

-- all that a version may have, which of them it has, and those in their order
abbrev pub all_limits : List Limit
all_limits = max_with_reserve ∷ max_with_short_term ∷ minimum ∷ high ∷ low ∷ []

abbrev pub has_limit : Version → Limit → Bool
has_limit version max_with_reserve = true
has_limit version max_with_short_term = true
has_limit version minimum = true
has_limit version high = true
has_limit version low = true

abbrev pub limits : Version → List Limit
limits version = max_with_reserve ∷ max_with_short_term ∷ minimum ∷ high ∷ low ∷ []

pub data Row : Type 0 where
  balance_row : Row
  market_row : Curve → Row
  zone_row : ℕ → Curve → Row
  flowgate_row : ℕ → Row
  limit_row : ℕ → Limit → Row

abbrev pub market_rows : Case → List Row
market_rows c = map market_row (curves c.version)

abbrev pub zone_rows : Case → List Row
zone_rows c = across (λ z. map (zone_row z) zoned_curves) (upto c.zones)

abbrev pub flowgate_rows : Case → List Row
flowgate_rows c = map flowgate_row (upto c.flowgates)

abbrev pub limit_rows : Case → List Row
limit_rows c = across (λ i. map (limit_row i) (limits c.version)) (upto c.resources)

-- row 1 is the first
unfoldable pub rows : Case → List Row
rows c = balance_row ∷ (market_rows c ++ (zone_rows c ++ (flowgate_rows c ++ limit_rows c)))

-- how many: row 1 and one for each curve, one for each zoned curve in each zone, one for each flowgate, a resource's own
abbrev pub system_row_count : Version → ℕ
system_row_count version = 1 + length (curves version)

abbrev pub zone_row_count : ℕ
zone_row_count = length zoned_curves

abbrev pub resource_row_count : Version → ℕ
resource_row_count version = length (limits version)

abbrev pub row_count_of : Version → ℕ → ℕ → ℕ → ℕ
row_count_of version r z f = system_row_count version + z * zone_row_count + f + r * resource_row_count version

abbrev pub row_count : Case → ℕ
row_count c = row_count_of c.version c.resources c.zones c.flowgates

-- row 1 is an equation, all others are 'at least'
pub data Sense : Type 0 where
  equal at_least : Sense

abbrev pub sense : Row → Sense
sense balance_row = equal
sense (market_row k) = at_least
sense (zone_row z k) = at_least
sense (flowgate_row f) = at_least
sense (limit_row i l) = at_least

-- ---- the table
-- its entries 0, 1 and -1
unfoldable pub none : ℤ
none = pos 0

unfoldable pub one : ℤ
one = pos 1

unfoldable pub minus_one : ℤ
minus_one = negsuc 0

-- an entry for each of e, g, c, s, o, u, d; in every row e less h stands for e (02, request 10)
unfoldable pub entries : ℤ → ℤ → ℤ → ℤ → ℤ → ℤ → ℤ → Service → ℤ
entries e g c s o u d energy = e
entries e g c s o u d regulation = g
entries e g c s o u d contingency = c
entries e g c s o u d on_line_short_term = s
entries e g c s o u d off_line_short_term = o
entries e g c s o u d ramping_up = u
entries e g c s o u d ramping_down = d
entries e g c s o u d charging = neg_ℤ e

-- spin is c of an on-line resource with flag 2
abbrev pub is_spinning : Resource → Bool
is_spinning r = on_line r && spinning_flag r.flags

unfoldable pub spins : Resource → ℤ
spins r = cond (is_spinning r) one none

-- g+c, g+spin, g, s+o
unfoldable pub in_reserve : Resource → Curve → Service → ℤ
in_reserve r operating = entries none one one none none none none
in_reserve r regulating_plus_spinning = entries none one (spins r) none none none none
in_reserve r regulating = entries none one none none none none none
in_reserve r short_term = entries none none none one one none none

-- with u and d where a version has them: e+g+c+u ≤ MAX, e-g-d ≥ MIN (02, request 3)
unfoldable pub in_limit : Limit → Service → ℤ
in_limit max_with_reserve = entries minus_one minus_one minus_one none none minus_one none
in_limit max_with_short_term = entries minus_one none none minus_one none none none
in_limit minimum = entries one minus_one none none none none minus_one
in_limit high = entries minus_one none none none none none none
in_limit low = entries one none none none none none none

unfoldable pub coefficient : Case → Row → Quantity → ℤ
coefficient c balance_row (cleared_quantity k) = none
coefficient c balance_row (provided_quantity i s) = entries one none none none none none none s
coefficient c (market_row k) (cleared_quantity k') = cond (eqb (curve_number k) (curve_number k')) minus_one none
coefficient c (market_row k) (provided_quantity i s) = in_reserve (c.resource i) k s
coefficient c (zone_row z k) (cleared_quantity k') = none
coefficient c (zone_row z k) (provided_quantity i s) = cond (eqb (c.resource i).zone (suc z)) (in_reserve (c.resource i) k s) none
coefficient c (flowgate_row f) (cleared_quantity k) = none
coefficient c (flowgate_row f) (provided_quantity i s) = neg_ℤ (entries (c.shift_factor f i) none none none none none none s)
coefficient c (limit_row i' l) (cleared_quantity k) = none
coefficient c (limit_row i' l) (provided_quantity i s) = cond (eqb i i') (in_limit l s) none

unfoldable pub right_side : Case → Row → ℤ
right_side c balance_row = pos c.demand
right_side c (market_row k) = pos 0
right_side c (zone_row z k) = pos (c.zone_requirement z k)
right_side c (flowgate_row f) = neg_ℤ (pos 1000 *ℤ c.flowgate_limit f)
right_side c (limit_row i max_with_reserve) = neg_ℤ (pos (max_of (c.resource i)))
right_side c (limit_row i max_with_short_term) = neg_ℤ (pos (max_of (c.resource i)))
right_side c (limit_row i minimum) = min_of (c.resource i)
right_side c (limit_row i high) = neg_ℤ (hi_of (c.resource i))
right_side c (limit_row i low) = lo_of (c.resource i)

-- ---- what a schedule makes of them
unfoldable pub left_side : Case → Schedule → Row → ℤ
left_side c x row = sum_of (λ a. coefficient c row a *ℤ pos (x a)) (quantities c)

unfoldable pub slack : Case → Schedule → Row → ℤ
slack c x row = left_side c x row -ℤ right_side c row

abbrev pub Meets : Sense → ℤ → Type 0
Meets equal v = v ≡ pos 0
Meets at_least v = pos 0 ≤ℤ v

-- every quantity is at most its upper bound
abbrev pub Bounded : Case → Schedule → Type 0
Bounded c x = Each (λ a. x a ≤ upper_bound c a) (quantities c)

-- every row is met
abbrev pub Met : Case → Schedule → Type 0
Met c x = Each (λ row. Meets (sense row) (slack c x row)) (rows c)
