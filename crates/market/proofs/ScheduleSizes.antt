-- How large the cost of a schedule within its bounds is, and the left sides and slacks of rows.
use Prim.Native.Nat.{◌*◌, ◌≤◌}
use native.Mathlib.Nat.{le_refl, mul-le-mul_left}
use native.Mathlib.Omega.{arith}
use lib.IntN.{pos, nat_abs, ◌*ℤ◌}
use Rattle.arith.specs.Sums.{total_of, size_of}
use Rattle.arith.proofs.Magnitudes.{Size, size_nat, size_more, size-sub, size-mul}
use Rattle.arith.proofs.NaturalSums.{total_mono, total-scale, size-sum}
use Rattle.arith.proofs.Sums.{sum-scale}
use Rattle.market.specs.Case.{Case}
use Rattle.market.specs.UpperBounds.{Quantity, quantities, Schedule, upper_bound}
use Rattle.market.specs.Rows.{Row, coefficient, left_side, slack, Bounded}
use Rattle.market.specs.Cost.{Priced, priced, offer, part, cost}
use Rattle.market.proofs.Families.{RowOf, QuantityOf, PricedOf, at_quantity, each_quantity}
use Rattle.market.proofs.LargestCase.{quantities_most}
use Rattle.market.specs.Sizes.{most_coefficient, most_amount, most_price, most_amounts, most_cost, most_slack}
use Rattle.market.proofs.Ranges.{CaseRanges}
use Rattle.market.proofs.RowSizes.{coefficient_size, right_size}
use Rattle.market.proofs.AmountSizes.{capacity, part_most, amount_most, priced_most}
use Rattle.market.proofs.NetPriceSizes.{offer_size}
use Rattle.market.proofs.LargestSums.{amounts_figure, cost_figure, right_figure}

module _ (c : Case) (h : CaseRanges c) where
  -- an offer in thousandths of a cent
  pub offered_size : (p : Priced) → PricedOf c p → Size (pos 1000 *ℤ offer c p) most_price
  offered_size p m = size-mul (size_nat (le_refl 1000)) (offer_size c h p m)

  -- ---- a schedule within its bounds
  module _ (x : Schedule) (b : Bounded c x) where
    -- cost
    cost_term : (p : Priced) → PricedOf c p → Size (pos 1000 *ℤ (offer c p *ℤ pos (part c x p))) (most_price * capacity c p)
    cost_term p m = size_more (size-mul (size_nat (le_refl 1000)) (size-mul (offer_size c h p m) (size_nat (part_most c x b p m)))) (omega arith)

    pub cost_terms_most : size_of (λ p. pos 1000 *ℤ (offer c p *ℤ pos (part c x p))) (priced c) ≤ most_cost
    cost_terms_most =
        omega (
          arith,
          priced_most c h (λ q. most_price) (λ p. nat_abs (pos 1000 *ℤ (offer c p *ℤ pos (part c x p)))) (λ p m. (cost_term p m).le),
          quantities_most c h.counts (λ q. most_price * most_amount q),
          cost_figure,
        )

    pub cost_size : Size (cost c x) most_cost
    unfolding cost
    cost_size = rw (sum-scale (pos 1000) (λ p. offer c p *ℤ pos (part c x p)) (priced c)) (size-sum _ (priced c) cost_terms_most)

    -- left sides and slacks
    amounts_most : total_of most_amount (quantities c) ≤ most_amounts
    amounts_most = omega (arith, quantities_most c h.counts most_amount, amounts_figure)

    pub amount_of : (q : Quantity) → QuantityOf c q → x q ≤ most_amount q
    amount_of q m = omega (arith, at_quantity c (λ q. x q ≤ upper_bound c q) b q m, amount_most c h q m)

    left_term : (r : Row) → RowOf c r → (q : Quantity) → QuantityOf c q → Size (coefficient c r q *ℤ pos (x q)) (most_coefficient r * most_amount q)
    left_term r m q n = size-mul (coefficient_size c h r q m n) (size_nat (amount_of q n))

    pub left_terms_most : (r : Row) → RowOf c r → size_of (λ q. coefficient c r q *ℤ pos (x q)) (quantities c) ≤ most_coefficient r * most_amounts
    left_terms_most r m =
        omega (
          arith,
          total_mono (λ q. nat_abs (coefficient c r q *ℤ pos (x q))) (λ q. most_coefficient r * most_amount q) (quantities c) (each_quantity c _ (λ q n. (left_term r m q n).le)),
          total-scale (most_coefficient r) most_amount (quantities c),
          mul-le-mul_left (most_coefficient r) amounts_most,
        )

    pub left_size : (r : Row) → RowOf c r → Size (left_side c x r) (most_coefficient r * most_amounts)
    unfolding left_side
    left_size r m = size-sum _ (quantities c) (left_terms_most r m)

    pub slack_size : (r : Row) → RowOf c r → Size (slack c x r) (most_slack r)
    unfolding slack
    slack_size r m = size_more (size-sub (left_size r m) (right_size c h r m)) (omega (arith, right_figure r))
