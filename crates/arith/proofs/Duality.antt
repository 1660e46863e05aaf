-- The duality of a linear programme: cost less bound is the sum of the charges for all amounts and row prices; for
-- feasible ones no charge is negative, so the bound is below the cost, and there is no gap exactly where each charge is 0.
use mathlib.Core.Path.{◌≡◌, sym, ◌∙◌, ap}
use mathlib.Core.List.{map}
use mathlib.Core.Logic.{◌↔◌, ◌⊎◌, inl, inr}
use native.Mathlib.Omega.{arith}
use lib.IntN.{ℤ, pos, neg_ℤ, ◌+ℤ◌, ◌-ℤ◌, ◌*ℤ◌, *ℤ_comm}
use lib.Signed.{◌≤ℤ◌}
use Rattle.arith.specs.Sums.{min_ℤ, sum_of, Each}
use Rattle.arith.specs.LinearProgramme.{LinearProgramme, net, slack, cost, least, bound, row_charge, column_charge, charges, RowFits, ColumnFits, Feasible}
use Rattle.arith.proofs.Order.{+ℤ-mono, *ℤ-nonneg, ≤ℤ-total, min-le-l, min-le-r, ≤ℤ-sub, sub-≤ℤ, ≤ℤ-trans}
use Rattle.arith.proofs.Linear.{sorted, count}
use Rattle.arith.proofs.Lists.{each_imp, each_join, each_map}
use Rattle.arith.proofs.Sums.{sum-map, sum-append, sum-sub, sum-scale, sum-ext, sum-swap, sum_nonneg, sum-all-zero, all-zero-sum}

-- a price n times an amount x between 0 and u
flip : (n x u : ℤ) → pos 0 ≤ℤ (neg_ℤ n *ℤ (u -ℤ x)) → (n *ℤ u) ≤ℤ (n *ℤ x)
flip n x u = simp sorted (simp count (omega arith))

neg-nonneg : (n : ℤ) → n ≤ℤ pos 0 → pos 0 ≤ℤ neg_ℤ n
neg-nonneg n = simp sorted (simp count (omega arith))

below_min : (n x u : ℤ) → pos 0 ≤ℤ x → x ≤ℤ u → min_ℤ (pos 0) (n *ℤ u) ≤ℤ (n *ℤ x)
below_min n x u h k = go (≤ℤ-total (pos 0) n)
  where
    go : (pos 0 ≤ℤ n) ⊎ (n ≤ℤ pos 0) → min_ℤ (pos 0) (n *ℤ u) ≤ℤ (n *ℤ x)
    go (inl p) = ≤ℤ-trans (min-le-l (pos 0) (n *ℤ u)) (*ℤ-nonneg p h)
    go (inr p) = ≤ℤ-trans (min-le-r (pos 0) (n *ℤ u)) (flip n x u (*ℤ-nonneg (neg-nonneg n p) (≤ℤ-sub k)))

module _ {Row Column : Type 0} (L : LinearProgramme Row Column) where
  -- the rows' prices times the rows' amounts, by rows and by columns
  cross : (Row → ℤ) → (Column → ℤ) → ℤ
  cross y x = sum_of (λ r. y r *ℤ sum_of (λ j. L.coefficient r j *ℤ x j) L.columns) L.rows

  cross_columns : (y : Row → ℤ) (x : Column → ℤ) → cross y x ≡ sum_of (λ j. sum_of (λ r. y r *ℤ L.coefficient r j) L.rows *ℤ x j) L.columns
  unfolding cross
  cross_columns y x =
      sum-ext _ _ (λ r. sum-scale (y r) (λ j. L.coefficient r j *ℤ x j) L.columns) L.rows
      ∙ sum-swap (λ r j. y r *ℤ (L.coefficient r j *ℤ x j)) L.rows L.columns
      ∙ sum-ext _ _ by_column L.columns
    where
      by_row : (j : Column) (r : Row) → y r *ℤ (L.coefficient r j *ℤ x j) ≡ x j *ℤ (y r *ℤ L.coefficient r j)
      by_row j r = simp sorted (simp count (omega arith))

      by_column : (j : Column) → sum_of (λ r. y r *ℤ (L.coefficient r j *ℤ x j)) L.rows ≡ sum_of (λ r. y r *ℤ L.coefficient r j) L.rows *ℤ x j
      by_column j = sum-ext _ _ (by_row j) L.rows ∙ sym (sum-scale (x j) (λ r. y r *ℤ L.coefficient r j) L.rows) ∙ *ℤ_comm (x j) _

  rows_sum : (y : Row → ℤ) (x : Column → ℤ) → sum_of (row_charge L y x) L.rows ≡ cross y x -ℤ sum_of (λ r. y r *ℤ L.right_side r) L.rows
  unfolding row_charge slack cross
  rows_sum y x = sum-ext _ _ (λ r. step (y r) (sum_of (λ j. L.coefficient r j *ℤ x j) L.columns) (L.right_side r)) L.rows ∙ sum-sub _ _ L.rows
    where
      step : (a s b : ℤ) → a *ℤ (s -ℤ b) ≡ a *ℤ s -ℤ a *ℤ b
      step a s b = simp sorted (simp count (omega arith))

  columns_sum : (y : Row → ℤ) (x : Column → ℤ) → sum_of (column_charge L y x) L.columns ≡ (cost L x -ℤ cross y x) -ℤ sum_of (least L y) L.columns
  unfolding column_charge net cost
  columns_sum y x =
      sum-sub (λ j. net L y j *ℤ x j) (least L y) L.columns
      ∙ ap (λ (t : ℤ). t -ℤ sum_of (least L y) L.columns) (sum-ext _ _ (λ j. step (L.price j) (sum_of (λ r. y r *ℤ L.coefficient r j) L.rows) (x j)) L.columns ∙ sum-sub (λ j. L.price j *ℤ x j) _ L.columns ∙ ap (λ (t : ℤ). cost L x -ℤ t) (sym (cross_columns y x)))
    where
      step : (c s x : ℤ) → (c -ℤ s) *ℤ x ≡ c *ℤ x -ℤ s *ℤ x
      step c s x = simp sorted (simp count (omega arith))

  -- for every x and y, feasible or not
  pub gap : (y : Row → ℤ) (x : Column → ℤ) → cost L x -ℤ bound L y ≡ sum_of (row_charge L y x) L.rows +ℤ sum_of (column_charge L y x) L.columns
  unfolding bound
  gap y x = rw (rows_sum y x, columns_sum y x) (simp sorted (simp count (omega arith)))

  -- ---- the charges of a feasible x
  row_nonneg : (y : Row → ℤ) (x : Column → ℤ) (r : Row) → RowFits L y x r → pos 0 ≤ℤ row_charge L y x r
  unfolding row_charge
  row_nonneg y x r (inl h) = *ℤ-nonneg h.0 h.1
  row_nonneg y x r (inr e) = rw e (simp sorted (simp count (omega arith)))

  column_nonneg : (y : Row → ℤ) (x : Column → ℤ) (j : Column) → ColumnFits L x j → pos 0 ≤ℤ column_charge L y x j
  unfolding column_charge least
  column_nonneg y x j h = ≤ℤ-sub (below_min (net L y j) (x j) (L.upper_bound j) h.0 h.1)

  rows_nonneg : (y : Row → ℤ) (x : Column → ℤ) → Feasible L y x → pos 0 ≤ℤ sum_of (row_charge L y x) L.rows
  rows_nonneg y x h = sum_nonneg (row_charge L y x) L.rows (each_imp (row_nonneg y x) L.rows h.0)

  columns_nonneg : (y : Row → ℤ) (x : Column → ℤ) → Feasible L y x → pos 0 ≤ℤ sum_of (column_charge L y x) L.columns
  columns_nonneg y x h = sum_nonneg (column_charge L y x) L.columns (each_imp (column_nonneg y x) L.columns h.1)

  -- weak duality
  pub weak : (y : Row → ℤ) (x : Column → ℤ) → Feasible L y x → bound L y ≤ℤ cost L x
  weak y x h = sub-≤ℤ (rw (gap y x) (+ℤ-mono (rows_nonneg y x h) (columns_nonneg y x h)))

  -- ---- listed
  pub charges_sum : (y : Row → ℤ) (x : Column → ℤ) → cost L x -ℤ bound L y ≡ sum_of (λ v. v) (charges L y x)
  unfolding charges
  charges_sum y x =
      gap y x
      ∙ sym (sum-append (λ v. v) (map (row_charge L y x) L.rows) (map (column_charge L y x) L.columns)
      ∙ rw (sum-map (λ v. v) (row_charge L y x) L.rows, sum-map (λ v. v) (column_charge L y x) L.columns))

  pub charges_nonneg : (y : Row → ℤ) (x : Column → ℤ) → Feasible L y x → Each (λ v. pos 0 ≤ℤ v) (charges L y x)
  unfolding charges
  charges_nonneg y x h =
      each_join (λ v. pos 0 ≤ℤ v) (map (row_charge L y x) L.rows) (map (column_charge L y x) L.columns)
      (each_map (λ v. pos 0 ≤ℤ v) (row_charge L y x) L.rows (each_imp (row_nonneg y x) L.rows h.0))
      (each_map (λ v. pos 0 ≤ℤ v) (column_charge L y x) L.columns (each_imp (column_nonneg y x) L.columns h.1))

  -- no gap exactly where every charge is zero
  pub zero_gap : (y : Row → ℤ) (x : Column → ℤ) → Feasible L y x → (cost L x -ℤ bound L y ≡ pos 0) ↔ Each (λ v. v ≡ pos 0) (charges L y x)
  zero_gap y x h = (
    (λ e. sum-all-zero (λ v. v) (charges L y x) (charges_nonneg y x h) (sym (charges_sum y x) ∙ e)),
    (λ e. charges_sum y x ∙ all-zero-sum (λ v. v) (charges L y x) e),
  )
