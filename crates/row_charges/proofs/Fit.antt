-- The charges of rows fit a signed 64-bit number: their prices, the sides of their slacks and the products are small enough.
use mathlib.Core.Path.{refl, ◌≡◌, ap}
use Prim.Native.Nat.{ℕ, ◌+◌, ◌*◌, ◌<◌, ◌≤◌}
use native.Mathlib.Nat.{mul-le-mul}
use native.Mathlib.Omega.{arith}
use lib.IntN.{ℤ, pos, nat_abs, ◌+ℤ◌, ◌-ℤ◌, ◌*ℤ◌}
use Rattle.arith.specs.Sums.{sum_of, upto}
use Rattle.arith.proofs.Linear.{sorted, count}
use Rattle.arith.proofs.Magnitudes.{abs-add, abs-sub, abs_neg, abs-mul}
use lib.Dec.{T}
use Rattle.market.specs.Case.{Case, has_curve, zoned}
use Rattle.market.specs.declared.Curve.{Curve}
use Rattle.market.specs.declared.Curve.TheVariants.{Operating as operating, RegulatingPlusSpinning as regulating_plus_spinning, Regulating as regulating, ShortTerm as short_term}
use Rattle.market.specs.Limits.{max_of, hi_of}
use Rattle.market.specs.UpperBounds.{energy, cleared_quantity, Schedule}
use Rattle.market.specs.Rows.{Row, balance_row, market_row, zone_row, flowgate_row, limit_row, max_with_reserve, max_with_short_term, minimum, high, low, right_side, slack, Bounded}
use Rattle.market.specs.Certificate.{Prices, highest_price}
use Rattle.market.specs.Charges.{row_charge}
use Rattle.market.specs.InWords.{RowsInWords, kw_of, reserve_of, reserve_in_zone}
use Rattle.market.specs.Records.{amounts_of, limit_prices_of, cleared_of, curve_amounts_of, reserve_prices_of}
use Rattle.market.proofs.Families.{RowOf}
use Rattle.market.proofs.Ranges.{CaseRanges, PriceRanges}
use Rattle.market.proofs.RowSlacks.{rows_in_words}
use Rattle.market.proofs.Versions.{zoned_is_curve}
use Rattle.market.proofs.RowSizes.{right_size}
use Rattle.market.proofs.LargestSums.{coefficient_figure}
use Rattle.market.proofs.ScheduleSizes.{amount_of, slack_size}
use Rattle.market.proofs.ChargeSizes.{row_charge_size}
use Rattle.units.specs.Room.{ProductRoom}
use Rattle.limits.specs.Together.{limits_of}
use Rattle.row_charges.specs.Families.{RowChargeRoom, FourRoom, FiveRoom}
use Rattle.market.specs.Sizes.{most_cents, most_demand, most_factor, most_flowgate_limit, most_price, most_amounts}

highest_figure : (r : Row) → highest_price r ≤ most_price
highest_figure balance_row = omega arith
highest_figure (market_row k) = omega arith
highest_figure (zone_row z k) = omega arith
highest_figure (flowgate_row g) = omega arith
highest_figure (limit_row i l) = omega arith

-- a side of a difference is no larger than the difference and the other side
left_most : (a b : ℤ) → nat_abs a ≤ nat_abs (a -ℤ b) + nat_abs b
left_most a b = omega (arith, ap nat_abs (back a b), abs-add (a -ℤ b) b)
  where
    back : (a b : ℤ) → a ≡ a -ℤ b +ℤ b
    back a b = simp sorted (simp count (omega arith))

right_most : (a b : ℤ) → nat_abs b ≤ nat_abs (a -ℤ b) + nat_abs a
right_most a b = omega (arith, ap nat_abs (back a b), abs-sub a (a -ℤ b))
  where
    back : (a b : ℤ) → b ≡ a -ℤ (a -ℤ b)
    back a b = simp sorted (simp count (omega arith))

-- a flowgate's price times a difference of its row's sides: the flow is no more than slack and limit
abbrev pub most_side : ℕ
most_side = most_factor * (most_amounts + most_demand) + 1000 * most_flowgate_limit

pub flow_value_room : (p a b : ℤ) → nat_abs p ≤ most_cents → nat_abs a ≤ most_side → nat_abs b ≤ most_side → ProductRoom p (a -ℤ b)
flow_value_room p a b h l m =
    let most : nat_abs (a -ℤ b) ≤ 2 * most_side = omega (arith, abs-sub a b) in
    record { left = omega arith; right = omega arith; product = omega (arith, mul-le-mul h most) }

module _ (c : Case) (x : Schedule) (y : Prices) (h : CaseRanges c) (p : PriceRanges c y) (b : Bounded c x) where
  words : RowsInWords c x
  words = rows_in_words c x

  product_room : (r : Row) → RowOf c r → ProductRoom (y r) (slack c x r)
  unfolding row_charge
  product_room r m =
      record {
        left = omega (arith, (p.price r m).le, highest_figure r);
        right = omega (arith, (slack_size c h x b r m).le, coefficient_figure r);
        product = omega (arith, abs-mul (y r) (slack c x r), (row_charge_size c h y p x b r m).le);
      }

  -- a row whose right, or left, of two sides is known to be small
  module _ (r : Row) (m : RowOf c r) (left right : ℤ) (e : slack c x r ≡ left -ℤ right) where
    difference_small : nat_abs (left -ℤ right) ≤ most_factor * (most_amounts + most_demand)
    difference_small = omega (arith, ap nat_abs e, (slack_size c h x b r m).le, coefficient_figure r)

    room_by_right : nat_abs right ≤ most_demand → RowChargeRoom (y r) left right
    room_by_right s = record { sides = omega (arith, difference_small, left_most left right); product = rw e at (product_room r m) }

    room_by_left : nat_abs left ≤ most_demand → RowChargeRoom (y r) left right
    room_by_left s = record { sides = omega (arith, difference_small, right_most left right); product = rw e at (product_room r m) }

  pub balance_room : (n : ℕ) → n ≡ c.resources → RowChargeRoom (y balance_row) (sum_of (λ i. kw_of x i energy) (upto n)) (pos c.demand)
  balance_room n e = rw e (room_by_right balance_row tt _ _ words.balance h.demand_to)

  -- the sides of a flowgate's row
  pub limit_side : (g : ℕ) → g < c.flowgates → nat_abs (pos 1000 *ℤ c.flowgate_limit g) ≤ most_side
  limit_side g m = omega (arith, abs-mul (pos 1000) (c.flowgate_limit g), (h.flowgate_limit g m).le)

  pub flow_side : (n g : ℕ) → n ≡ c.resources → g < c.flowgates → nat_abs (sum_of (λ i. c.shift_factor g i *ℤ kw_of x i energy) (upto n)) ≤ most_side
  flow_side n g e m =
      let limit = pos 1000 *ℤ c.flowgate_limit g in
      let flows = sum_of (λ i. c.shift_factor g i *ℤ kw_of x i energy) (upto c.resources) in
      rw e (omega (arith, abs-mul (pos 1000) (c.flowgate_limit g), (h.flowgate_limit g m).le, right_most limit flows, difference_small (flowgate_row g) m limit flows (words.flowgate g)))

  four_room : (row : Curve → Row) (have need : Curve → ℤ) → ((k : Curve) → T (zoned k) → RowChargeRoom (y (row k)) (have k) (need k)) →
      FourRoom (reserve_prices_of y row) (curve_amounts_of have) (curve_amounts_of need)
  unfolding reserve_prices_of
  four_room row have need s =
      record { operating = s operating tt; regulating_plus_spinning = s regulating_plus_spinning tt; regulating = s regulating tt; short_term = s short_term tt }

  pub curve_room : (k : Curve) → T (has_curve c.version k) → (n : ℕ) → n ≡ c.resources → RowChargeRoom (y (market_row k)) (sum_of (reserve_of c x k) (upto n)) (pos (x (cleared_quantity k)))
  curve_room k t n e = rw e (room_by_right (market_row k) t _ _ (words.market k t) (omega (arith, amount_of c h x b (cleared_quantity k) t)))

  pub market_room : (n : ℕ) → n ≡ c.resources → FourRoom (reserve_prices_of y market_row) (curve_amounts_of (λ k. sum_of (reserve_of c x k) (upto n))) (cleared_of x)
  unfolding cleared_of
  market_room n e =
      rw e
      (four_room market_row (λ k. sum_of (reserve_of c x k) (upto c.resources)) (λ k. pos (x (cleared_quantity k)))
      (λ k t. curve_room k (zoned_is_curve c.version k t) c.resources refl))

  pub zone_room : (n z : ℕ) → n ≡ c.resources → z < c.zones →
      FourRoom (reserve_prices_of y (zone_row z)) (curve_amounts_of (λ k. sum_of (reserve_in_zone c x z k) (upto n))) (curve_amounts_of (λ k. pos (c.zone_requirement z k)))
  zone_room n z e m =
      rw e
      (four_room (zone_row z) (λ k. sum_of (reserve_in_zone c x z k) (upto c.resources)) (λ k. pos (c.zone_requirement z k))
      (λ k t. room_by_right (zone_row z k) (m, t) _ _ (words.zone z k) (omega (arith, h.zone_requirement z k m t))))

  -- MAX and HI stand on the left, MIN and LO on the right
  pub limit_room : (i : ℕ) → i < c.resources → FiveRoom (limit_prices_of y i) (amounts_of x i) (limits_of (c.resource i))
  unfolding limit_prices_of amounts_of limits_of right_side
  limit_room i n =
      let s = c.resource i in
      let most : max_of s ≤ most_demand = omega (arith, (right_size c h (limit_row i max_with_reserve) (n, tt)).le, abs_neg (pos (max_of s))) in
      record {
        max_with_reserve = room_by_left (limit_row i max_with_reserve) (n, tt) _ _ (words.below_max i n) most;
        max_with_short_term = room_by_left (limit_row i max_with_short_term) (n, tt) _ _ (words.below_max_short_term i n) most;
        minimum = room_by_right (limit_row i minimum) (n, tt) _ _ (words.above_min i n) (omega (arith, (right_size c h (limit_row i minimum) (n, tt)).le));
        high = room_by_left (limit_row i high) (n, tt) _ _ (words.below_high i n) (omega (arith, (right_size c h (limit_row i high) (n, tt)).le, abs_neg (hi_of s)));
        low = room_by_right (limit_row i low) (n, tt) _ _ (words.above_low i n) (omega (arith, (right_size c h (limit_row i low) (n, tt)).le));
      }
