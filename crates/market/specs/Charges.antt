-- The gap and the listed charges, in charge order (01, 'Certificate, cost, bound, charges').
-- 'Charge' is 01's own term: what one row, or one priced quantity, adds to the gap.
use Rattle.std.specs.Prelude.{List, ◌++◌, map, ℕ, ◌+◌, ℤ, pos, ◌*ℤ◌, ◌-ℤ◌}
use Rattle.market.specs.Version.{Version}
use Rattle.market.specs.Case.{Case}
use Rattle.market.specs.UpperBounds.{Schedule}
use Rattle.market.specs.Rows.{Row, rows, row_count_of, slack}
use Rattle.market.specs.Certificate.{Prices}
use Rattle.market.specs.Cost.{Priced, priced, priced_count_of, part, cost}
use Rattle.market.specs.Bound.{net_price, lowest, bound}

abbrev pub gap : Case → Schedule → Prices → ℤ
gap c x y = cost c x -ℤ bound c y

unfoldable pub row_charge : Case → Schedule → Prices → Row → ℤ
row_charge c x y row = y row *ℤ slack c x row

unfoldable pub priced_charge : Case → Schedule → Prices → Priced → ℤ
priced_charge c x y p = net_price c y p *ℤ pos (part c x p) -ℤ lowest c y p

-- rows; per resource ten steps, g, c, s, o; sixteen curve steps
unfoldable pub charges : Case → Schedule → Prices → List ℤ
charges c x y = map (row_charge c x y) (rows c) ++ map (priced_charge c x y) (priced c)

-- 21 + 4Z + F + 19R
abbrev pub charge_count_of : Version → ℕ → ℕ → ℕ → ℕ
charge_count_of version r z f = row_count_of version r z f + priced_count_of version r

abbrev pub charge_count : Case → ℕ
charge_count c = charge_count_of c.version c.resources c.zones c.flowgates
