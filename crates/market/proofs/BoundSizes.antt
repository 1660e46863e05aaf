-- How large the terms of net prices and of the bound are, at prices in their ranges.
use Prim.Native.Nat.{◌+◌, ◌*◌, ◌≤◌}
use native.Mathlib.Omega.{arith}
use lib.IntN.{ℤ, pos, nat_abs, ◌*ℤ◌}
use Rattle.arith.specs.Sums.{size_of}
use Rattle.arith.proofs.Magnitudes.{Size, size_nat, size_more, size-add, size-sub, size-mul, size_least}
use Rattle.arith.proofs.NaturalSums.{total_mono, size-sum}
use Rattle.market.specs.Case.{Case}
use Rattle.market.specs.UpperBounds.{Quantity}
use Rattle.market.specs.Rows.{Row, rows, coefficient, right_side}
use Rattle.market.specs.Certificate.{Prices, highest_price}
use Rattle.market.specs.Cost.{Priced, priced, quantity_of, priced_upper_bound}
use Rattle.market.specs.Bound.{row_value, net_price, lowest, bound}
use Rattle.market.proofs.Families.{RowOf, QuantityOf, PricedOf, quantity_of_lem, each_row}
use Rattle.market.proofs.LargestCase.{rows_most, quantities_most}
use Rattle.market.specs.Sizes.{most_right, most_amount, most_price, most_net, most_taken, most_products, most_row_terms, most_bound}
use Rattle.market.proofs.Ranges.{CaseRanges, PriceRanges}
use Rattle.market.proofs.RowSizes.{coefficient_size, right_size}
use Rattle.market.proofs.AmountSizes.{capacity, width_most, priced_most}
use Rattle.market.proofs.NetPriceSizes.{net_size}
use Rattle.market.proofs.LargestSums.{products_figure, row_terms_figure, taken_figure, price_figure}
use Rattle.market.proofs.ScheduleSizes.{offered_size}

module _ (c : Case) (h : CaseRanges c) (y : Prices) (p : PriceRanges c y) where
  -- net prices: what a row takes from a quantity
  pub taken_size : (r : Row) (q : Quantity) → RowOf c r → QuantityOf c q → Size (y r *ℤ coefficient c r q) most_price
  taken_size r q m n = size_more (size-mul (p.price r m) (coefficient_size c h r q m n)) (omega (arith, price_figure r))

  pub taken_terms_most : (q : Quantity) → QuantityOf c q → size_of (λ r. y r *ℤ coefficient c r q) (rows c) ≤ most_taken
  taken_terms_most q n =
      omega (
        arith,
        total_mono (λ r. nat_abs (y r *ℤ coefficient c r q)) (λ r. most_price) (rows c) (each_row c _ (λ r m. (taken_size r q m n).le)),
        rows_most c h.counts (λ r. most_price),
        taken_figure,
      )

  -- every net price, by the count of all rows
  pub any_net_size : (q : Priced) → PricedOf c q → Size (net_price c y q) (most_price + most_taken)
  unfolding net_price row_value
  any_net_size q m = size-sub (offered_size c h q m) (size-sum _ (rows c) (taken_terms_most (quantity_of q) (quantity_of_lem c q m)))

  -- the bound: rows
  row_term_lem : (r : Row) → RowOf c r → Size (y r *ℤ right_side c r) (highest_price r * most_right r)
  row_term_lem r m = size-mul (p.price r m) (right_size c h r m)

  pub row_terms_most : size_of (λ r. y r *ℤ right_side c r) (rows c) ≤ most_row_terms
  row_terms_most =
      omega (
        arith,
        total_mono (λ r. nat_abs (y r *ℤ right_side c r)) (λ r. highest_price r * most_right r) (rows c) (each_row c _ (λ r m. (row_term_lem r m).le)),
        rows_most c h.counts (λ r. highest_price r * most_right r),
        row_terms_figure,
      )

  -- and what is priced
  product_size : (q : Priced) → PricedOf c q → Size (net_price c y q *ℤ pos (priced_upper_bound c q)) (most_net (quantity_of q) * capacity c q)
  product_size q m = size-mul (net_size c y h p q m) (size_nat (width_most c q))

  pub lowest_size : (q : Priced) → PricedOf c q → Size (lowest c y q) (most_net (quantity_of q) * capacity c q)
  unfolding lowest
  lowest_size q m = size_least (product_size q m)

  net_rated : (f : Priced → ℤ) → ((q : Priced) → PricedOf c q → Size (f q) (most_net (quantity_of q) * capacity c q)) → size_of f (priced c) ≤ most_products
  net_rated f m =
      omega (
        arith,
        priced_most c h most_net (λ q. nat_abs (f q)) (λ q n. (m q n).le),
        quantities_most c h.counts (λ q. most_net q * most_amount q),
        products_figure,
      )

  pub products_most : size_of (λ q. net_price c y q *ℤ pos (priced_upper_bound c q)) (priced c) ≤ most_products
  products_most = net_rated (λ q. net_price c y q *ℤ pos (priced_upper_bound c q)) product_size

  pub lowest_most : size_of (lowest c y) (priced c) ≤ most_products
  lowest_most = net_rated (lowest c y) lowest_size

  pub bound_size : Size (bound c y) most_bound
  unfolding bound
  bound_size = size-add (size-sum _ (rows c) row_terms_most) (size-sum _ (priced c) lowest_most)
