-- How large the charges are, of a schedule within its bounds at prices in their ranges.
use Prim.Native.Nat.{ℕ, ◌+◌, ◌*◌, ◌<◌, ◌≤◌}
use native.Mathlib.Nat.{mul-le-mul_left}
use native.Mathlib.Omega.{arith}
use lib.IntN.{pos, ◌*ℤ◌}
use Rattle.arith.proofs.Magnitudes.{Size, size_nat, size_more, size-sub, size-mul}
use Rattle.market.specs.Case.{Case, energy_steps}
use Rattle.market.specs.UpperBounds.{Schedule, energy}
use Rattle.market.specs.Rows.{Row, Bounded}
use Rattle.market.specs.Certificate.{Prices}
use Rattle.market.specs.Cost.{Priced, priced_energy_step, quantity_of, part}
use Rattle.market.specs.Bound.{net_price}
use Rattle.market.specs.Charges.{row_charge, priced_charge}
use Rattle.market.proofs.Families.{RowOf, PricedOf}
use Rattle.market.specs.Sizes.{most_power, most_service_net, most_net, most_charge}
use Rattle.market.proofs.Ranges.{CaseRanges, PriceRanges}
use Rattle.market.proofs.AmountSizes.{capacity, capacity_most, part_most}
use Rattle.market.proofs.NetPriceSizes.{net_size}
use Rattle.market.proofs.LargestSums.{price_figure, charge_figure}
use Rattle.market.proofs.ScheduleSizes.{slack_size}
use Rattle.market.proofs.BoundSizes.{lowest_size}

module _ (c : Case) (h : CaseRanges c) (y : Prices) (p : PriceRanges c y) (x : Schedule) (b : Bounded c x) where
  pub row_charge_size : (r : Row) → RowOf c r → Size (row_charge c x y r) most_charge
  unfolding row_charge
  row_charge_size r m = size_more (size-mul (p.price r m) (slack_size c h x b r m)) (omega (arith, price_figure r))

  -- net price × amount, and the lowest as much again
  pub paid_size : (q : Priced) → PricedOf c q → Size (net_price c y q *ℤ pos (part c x q)) (most_net (quantity_of q) * capacity c q)
  paid_size q m = size-mul (net_size c y h p q m) (size_nat (part_most c x b q m))

  pub paid_figure : (q : Priced) → PricedOf c q → most_net (quantity_of q) * capacity c q + most_net (quantity_of q) * capacity c q ≤ most_charge
  paid_figure q m = omega (arith, mul-le-mul_left (most_net (quantity_of q)) (capacity_most c h q m), charge_figure (quantity_of q))

  pub priced_charge_size : (q : Priced) → PricedOf c q → Size (priced_charge c x y q) most_charge
  unfolding priced_charge
  priced_charge_size q m = size_more (size-sub (paid_size q m) (lowest_size c h y p q m)) (paid_figure q m)

  -- twice its own figure, where it is an energy step's
  pub energy_charge_size : (i j : ℕ) → i < c.resources → j < energy_steps → Size (priced_charge c x y (priced_energy_step i j)) (2 * (most_service_net energy * most_power))
  unfolding priced_charge quantity_of
  energy_charge_size i j m n =
      let q = priced_energy_step i j in
      size_more (size-sub (paid_size q (m, n)) (lowest_size c h y p q (m, n))) (omega (arith, mul-le-mul_left (most_service_net energy) (capacity_most c h q (m, n))))
