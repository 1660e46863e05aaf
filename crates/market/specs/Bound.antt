-- Net prices and the bound that row prices give (01, 'Certificate, cost, bound, charges').
use Rattle.std.specs.Prelude.{ℤ, pos, ◌+ℤ◌, ◌*ℤ◌, ◌-ℤ◌}
use Rattle.arith.specs.Sums.{min_ℤ, sum_of}
use Rattle.market.specs.Case.{Case}
use Rattle.market.specs.UpperBounds.{Quantity}
use Rattle.market.specs.Rows.{rows, coefficient, right_side}
use Rattle.market.specs.Certificate.{Prices}
use Rattle.market.specs.Cost.{Priced, priced, quantity_of, offer, priced_upper_bound}

-- over all rows, row price × coefficient
unfoldable pub row_value : Case → Prices → Quantity → ℤ
row_value c y a = sum_of (λ row. y row *ℤ coefficient c row a) (rows c)

unfoldable pub net_price : Case → Prices → Priced → ℤ
net_price c y p = pos 1000 *ℤ offer c p -ℤ row_value c y (quantity_of p)

unfoldable pub lowest : Case → Prices → Priced → ℤ
lowest c y p = min_ℤ (pos 0) (net_price c y p *ℤ pos (priced_upper_bound c p))

unfoldable pub bound : Case → Prices → ℤ
bound c y = sum_of (λ row. y row *ℤ right_side c row) (rows c) +ℤ sum_of (lowest c y) (priced c)
