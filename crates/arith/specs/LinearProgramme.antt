-- A linear programme with rows in 'at least' form and columns between 0 and an upper bound, a price for each row,
-- and what they give: cost, net prices, bound, charges.
use Rattle.std.specs.Prelude.{List, ◌++◌, map, ◌⊎◌, ◌≡◌, ℤ, pos, ◌+ℤ◌, ◌-ℤ◌, ◌*ℤ◌, ◌≤ℤ◌}
use Rattle.arith.specs.Sums.{min_ℤ, sum_of, Each}

pub record LinearProgramme (Row Column : Type 0) : Type 0 where
  pub rows : List Row
  pub columns : List Column
  pub coefficient : Row → Column → ℤ
  pub right_side : Row → ℤ
  pub price : Column → ℤ
  pub upper_bound : Column → ℤ

module _ {Row Column : Type 0} (L : LinearProgramme Row Column) where
  unfoldable pub net : (Row → ℤ) → Column → ℤ
  net y column = L.price column -ℤ sum_of (λ row. y row *ℤ L.coefficient row column) L.rows

  unfoldable pub slack : (Column → ℤ) → Row → ℤ
  slack x row = sum_of (λ column. L.coefficient row column *ℤ x column) L.columns -ℤ L.right_side row

  unfoldable pub cost : (Column → ℤ) → ℤ
  cost x = sum_of (λ column. L.price column *ℤ x column) L.columns

  -- the least that a column between 0 and its upper bound can add at its net price
  unfoldable pub least : (Row → ℤ) → Column → ℤ
  least y column = min_ℤ (pos 0) (net y column *ℤ L.upper_bound column)

  unfoldable pub bound : (Row → ℤ) → ℤ
  bound y = sum_of (λ row. y row *ℤ L.right_side row) L.rows +ℤ sum_of (least y) L.columns

  unfoldable pub row_charge : (Row → ℤ) → (Column → ℤ) → Row → ℤ
  row_charge y x row = y row *ℤ slack x row

  unfoldable pub column_charge : (Row → ℤ) → (Column → ℤ) → Column → ℤ
  column_charge y x column = net y column *ℤ x column -ℤ least y column

  -- rows, then columns
  unfoldable pub charges : (Row → ℤ) → (Column → ℤ) → List ℤ
  charges y x = map (row_charge y x) L.rows ++ map (column_charge y x) L.columns

  -- a row is met with a price that is not negative, or met exactly at any price
  abbrev pub RowFits : (Row → ℤ) → (Column → ℤ) → Row → Type 0
  RowFits y x row = ((pos 0 ≤ℤ y row) × (pos 0 ≤ℤ slack x row)) ⊎ (slack x row ≡ pos 0)

  abbrev pub ColumnFits : (Column → ℤ) → Column → Type 0
  ColumnFits x column = (pos 0 ≤ℤ x column) × (x column ≤ℤ L.upper_bound column)

  abbrev pub Feasible : (Row → ℤ) → (Column → ℤ) → Type 0
  Feasible y x = Each (RowFits y x) L.rows × Each (ColumnFits x) L.columns
