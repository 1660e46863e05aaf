-- Every sum fits a signed 64-bit number, and is no larger than its figure: the terms' absolute values together are no more than figures
-- computed over the largest case.
use mathlib.Core.List.{map}
use Prim.Native.Nat.{ℕ, ◌*◌, ◌<◌, ◌≤◌}
use native.Mathlib.Nat.{mul-le-mul}
use native.Mathlib.Omega.{arith}
use lib.IntN.{pos, nat_abs}
use Rattle.arith.specs.Sums.{size_of, upto, Each}
use Rattle.arith.proofs.Lists.{each-any, each_join, each_map, each-upto}
use Rattle.arith.proofs.Magnitudes.{Size, size-sub}
use Rattle.arith.proofs.NaturalSums.{total_mono, total_same}
use lib.Dec.{T}
use Rattle.market.specs.Case.{Case, Curve, zoned_curves, zoned, Reserve, reserves, energy_steps, curve_steps}
use Rattle.market.specs.CaseFile.{case_of}
use Rattle.market.specs.UpperBounds.{Schedule}
use Rattle.market.specs.Rows.{Row, balance_row, market_row, zone_row, rows, Bounded}
use Rattle.market.specs.Certificate.{Prices, certificate_of}
use Rattle.market.specs.Cost.{priced, quantity_of}
use Rattle.market.specs.Charges.{gap, row_charge, priced_charge, charges}
use Rattle.market.specs.Prices.{zone_prices}
use Rattle.market.specs.Fits.{Fits64, TermsFit, SumsFit, SumsAtMost, SumsFitTheorem}
use Rattle.market.proofs.Versions.{each_zoned, each_curve, zoned_is_curve}
use Rattle.market.proofs.Families.{quantity_of_lem, each_row, each_priced}
use Rattle.market.specs.Sizes.{most_price, most_gap}
use Rattle.market.proofs.Ranges.{CaseRanges, PriceRanges, valid_ranges, price_ranges, bounded}
use Rattle.market.proofs.RowSizes.{right_size}
use Rattle.market.proofs.AmountSizes.{energy_widths, curve_widths}
use Rattle.market.proofs.NetPriceSizes.{flowgates_most, lmp_size, net_energy, supplemental_size, spinning_size, regulating_size, short_term_size}
use Rattle.market.proofs.LargestSums.{coefficient_figure, right_figure}
use Rattle.market.proofs.ScheduleSizes.{offered_size, cost_terms_most, cost_size, left_terms_most, left_size, slack_size}
use Rattle.market.proofs.BoundSizes.{taken_terms_most, any_net_size, row_terms_most, products_most, lowest_most, bound_size}
use Rattle.market.proofs.ChargeSizes.{row_charge_size, paid_size, paid_figure, priced_charge_size, energy_charge_size}

module _ (c : Case) (h : CaseRanges c) (y : Prices) (p : PriceRanges c y) (x : Schedule) (b : Bounded c x) where
  charges_fit : Each (λ v. Fits64 v) (charges c x y)
  unfolding charges
  charges_fit =
      each_join _ (map (row_charge c x y) (rows c)) (map (priced_charge c x y) (priced c))
      (each_map _ (row_charge c x y) (rows c) (each_row c (λ r. Fits64 (row_charge c x y r)) (λ r m. omega (arith, row_charge_size c h y p x b r m))))
      (each_map _ (priced_charge c x y) (priced c) (each_priced c (λ q. Fits64 (priced_charge c x y q)) (λ q m. omega (arith, priced_charge_size c h y p x b q m))))

  -- a price for each curve of a zone
  curve_prices : (f : Curve → Row) → ((k : Curve) → T (zoned k) → Size (y (f k)) most_price) → size_of (λ k. y (f k)) zoned_curves ≤ 4 * most_price
  curve_prices f m = omega (arith, total_mono (λ k. nat_abs (y (f k))) (λ k. most_price) zoned_curves (each_zoned _ (λ k l. (m k l).le)), total_same most_price zoned_curves)

  zone_fits : (z : ℕ) → z < c.zones → Each (λ v. Fits64 v) (zone_prices y z)
  zone_fits z m =
      (omega (arith, regulating_size c y h p z m), (omega (arith, spinning_size c y h p z m), (omega (arith, supplemental_size c y h p z m), (omega (arith, short_term_size c y h p z m), tt))))

  -- the products in RAMP, of one reserve
  abbrev RampsFit : Reserve → Type 0
  RampsFit p = Each (λ i. Fits64 (pos ((c.resource i).ramp_rate * c.minutes p * 1000))) (upto c.resources)

  gap_size : Size (gap c x y) most_gap
  gap_size = size-sub (cost_size c h x b) (bound_size c h y p)

  all_fit : SumsFit c x y
  all_fit =
      record {
        high_fits = each-upto _ c.resources (λ i m. omega (arith, (h.resource i m).initial_to, (h.resource i m).ramp_up));
        low_terms = each-upto _ c.resources (λ i m. omega (arith, (h.resource i m).initial_to, (h.resource i m).ramp_down));
        energy_widths = each-upto _ c.resources (λ i m. omega (arith, energy_widths c h i m));
        curve_widths = each_curve c.version (λ k. TermsFit (λ j. pos (c.curve_width k j)) (upto curve_steps)) (λ k m. omega (arith, curve_widths c h k m));
        ramp_products = each-any RampsFit reserves (λ p. each-upto _ c.resources (λ i m. omega (arith, mul-le-mul (h.resource i m).ramp_rate (h.reserve p).minutes_to)));
        share_products = each-any (λ p. Fits64 (pos (c.share p * c.requirement p))) reserves (λ p. omega (arith, mul-le-mul (h.reserve p).share_to (h.reserve p).requirement_to));
        cost_terms = omega (arith, cost_terms_most c h x b);
        cost_fits = omega (arith, cost_size c h x b);
        slack_terms = each_row c _ (λ r m. omega (arith, right_size c h r m, right_figure r, left_terms_most c h x b r m, coefficient_figure r));
        left_fits = each_row c _ (λ r m. omega (arith, left_size c h x b r m, coefficient_figure r));
        slack_fits = each_row c _ (λ r m. omega (arith, slack_size c h x b r m, coefficient_figure r));
        offer_fits = each_priced c _ (λ q m. omega (arith, offered_size c h q m));
        net_terms = each_priced c _ (λ q m. omega (arith, offered_size c h q m, taken_terms_most c h y p (quantity_of q) (quantity_of_lem c q m)));
        net_fits = each_priced c _ (λ q m. omega (arith, any_net_size c h y p q m));
        product_terms = omega (arith, products_most c h y p);
        bound_terms = omega (arith, row_terms_most c h y p, lowest_most c h y p);
        bound_fits = omega (arith, bound_size c h y p);
        gap_fits = omega (arith, gap_size);
        charge_products = each_priced c _ (λ q m. omega (arith, paid_size c h y p x b q m, paid_figure c h y p x b q m));
        charge_fits = charges_fit;
        lmp_terms = each-upto _ c.resources (λ i m. omega (arith, p.price balance_row tt, flowgates_most c y h p i m));
        lmp_fits = each-upto _ c.resources (λ i m. omega (arith, lmp_size c y h p i m));
        zone_price_terms = each-upto _ c.zones (λ z m. omega (arith, curve_prices market_row (λ k l. p.price (market_row k) (zoned_is_curve c.version k l)), curve_prices (zone_row z) (λ k l. p.price (zone_row z k) (m, l))));
        zone_prices_fit = each-upto _ c.zones zone_fits;
      }

  all_at_most : SumsAtMost c x y
  all_at_most =
      record {
        lmp_terms_most = each-upto _ c.resources (λ i m. omega (arith, p.price balance_row tt, flowgates_most c y h p i m));
        lmp_most = each-upto _ c.resources (λ i m. (lmp_size c y h p i m).le);
        energy_net_most = each-upto _ c.resources (λ i m. each-upto _ energy_steps (λ j n. (net_energy c y h p i m j n).le));
        net_terms_most = each_priced c _ (λ q m. omega (arith, offered_size c h q m, taken_terms_most c h y p (quantity_of q) (quantity_of_lem c q m)));
        energy_charge_most = each-upto _ c.resources (λ i m. each-upto _ energy_steps (λ j n. (energy_charge_size c h y p x b i j m n).le));
        row_terms_most = row_terms_most c h y p;
        product_terms_most = products_most c h y p;
        bound_most = (bound_size c h y p).le;
        cost_most = (cost_size c h x b).le;
        gap_most = gap_size.le;
      }

-- ---- of any case, schedule and prices in their ranges
pub sums_fit_in_ranges : (c : Case) (x : Schedule) (y : Prices) → CaseRanges c → Bounded c x → PriceRanges c y → SumsFit c x y × SumsAtMost c x y
sums_fit_in_ranges c x y h b p = (all_fit c h y p x b, all_at_most c h y p x b)

-- ---- from the bytes
pub sums_fit : SumsFitTheorem
sums_fit b q valid prices amounts =
    sums_fit_in_ranges (case_of b) (certificate_of q).amount (certificate_of q).price (valid_ranges b valid) (bounded (case_of b) (certificate_of q) amounts) (price_ranges (case_of b) (certificate_of q) prices)
