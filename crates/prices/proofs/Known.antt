-- What a standing case and certificate are known to be: ranges by number.
use mathlib.Core.Path.{◌≡◌, refl}
use mathlib.Core.Bool.{false}
use mathlib.Core.List.{List}
use Prim.Native.Nat.{ℕ, ◌-◌, ◌*◌, ◌<◌, ◌≤◌}
use native.Mathlib.Nat.{mul-le-mul}
use native.Mathlib.Omega.{arith}
use lib.IntN.{pos, nat_abs, ◌*ℤ◌, ◌-ℤ◌}
use Rattle.arith.specs.Sums.{sum_of, upto}
use Rattle.arith.proofs.Magnitudes.{abs-mul}
use Rattle.arith.proofs.NaturalSums.{upto-size}
use lib.Dec.{T}
use Rattle.market.specs.Sizes.{most_provided}
use Rattle.market.specs.Version.{version_in}
use Rattle.market.specs.declared.Curve.{Curve}
use Rattle.market.specs.Case.{has_curve}
use Rattle.market.specs.CaseFile.{case_of, case_as}
use Rattle.market.specs.declared.Curve.TheVariants.{Operating as operating, RegulatingPlusSpinning as regulating_plus_spinning, Regulating as regulating, ShortTerm as short_term}
use Rattle.market.specs.UpperBounds.{Service, energy, regulation, contingency, on_line_short_term, off_line_short_term, cleared_quantity, provided_quantity, has_service}
use Rattle.market.specs.Rows.{balance_row, market_row, zone_row, flowgate_row}
use Rattle.market.specs.Certificate.{Prices, certificate_of, certificate_as, amount_at}
use Rattle.market.proofs.Versions.{one_version}
use Rattle.market.proofs.Ranges.{CaseRanges, PriceRanges, valid_ranges, price_ranges}
use Rattle.market.proofs.ScheduleSizes.{amount_of}
use Rattle.case_records.proofs.Places.{resources_is, zones_is, flowgates_is}
use Rattle.market.specs.Prices.{lmp_of, zone_regulating_price, zone_spinning_price, zone_supplemental_price, zone_short_term_price}
use Rattle.market.specs.Records.{reserve_prices_of, amounts_of}
use Rattle.units.specs.Room.{SumRoom, ProductRoom}
use Rattle.prices.specs.Standing.{PricesStand, Standing, SmallAmounts}
use Rattle.prices.specs.ZonePrices.{SmallPrices, added_prices, zone_prices_of}

module _ {b q : List ℕ} {r z f : ℕ} (s : PricesStand b q r z f) where
  pub case_ranges : CaseRanges (case_of b)
  case_ranges = valid_ranges b s.valid

  pub prices_in_range : PriceRanges (case_of b) (certificate_of q).price
  prices_in_range = price_ranges (case_of b) (certificate_of q) s.in_range

  pub resource_below : {i : ℕ} → i < r → i < (case_of b).resources
  resource_below h = omega (arith, resources_is s.case_bytes)

  pub flowgate_below : {g : ℕ} → g < f → g < (case_of b).flowgates
  flowgate_below h = omega (arith, flowgates_is s.case_bytes)

  pub zone_below : {y : ℕ} → y < z → y < (case_of b).zones
  zone_below h = omega (arith, zones_is s.case_bytes)

  -- a resource's zone, counted from 1
  pub zone_from_one : {i : ℕ} → i < r → 1 ≤ ((case_of b).resource i).zone
  zone_from_one {i} h = (case_ranges.resource i (resource_below h)).zone_from

  pub zone_in_case : {i : ℕ} → i < r → ((case_of b).resource i).zone - 1 < z
  zone_in_case {i} h = omega (arith, zone_from_one h, (case_ranges.resource i (resource_below h)).zone_to, zones_is s.case_bytes)

  pub balance_size : nat_abs ((certificate_of q).price balance_row) ≤ 400000000
  balance_size = (prices_in_range.price balance_row tt).le

  pub flowgate_size_lem : (g : ℕ) → g < f → nat_abs ((certificate_of q).price (flowgate_row g)) ≤ 400000
  flowgate_size_lem g h = (prices_in_range.price (flowgate_row g) (flowgate_below h)).le

  pub factor_size_lem : (g i : ℕ) → g < f → i < r → nat_abs ((case_of b).shift_factor g i) ≤ 1000
  factor_size_lem g i h k = (case_ranges.shift_factor g i (flowgate_below h) (resource_below k)).le

  pub limit_size : (g : ℕ) → g < f → nat_abs ((case_of b).flowgate_limit g) ≤ 20000000
  limit_size g h = (case_ranges.flowgate_limit g (flowgate_below h)).le

  -- in thousandths of a kW
  pub limit_room : (g : ℕ) → g < f → ProductRoom (pos 1000) ((case_of b).flowgate_limit g)
  limit_room g h = record { left = omega arith; right = omega (arith, limit_size g h); product = omega (arith, limit_size g h) }

  pub congestion_size : (g i : ℕ) → g < f → i < r → nat_abs ((certificate_of q).price (flowgate_row g) *ℤ (case_of b).shift_factor g i) ≤ 400000000
  congestion_size g i h k = omega (arith, abs-mul ((certificate_of q).price (flowgate_row g)) ((case_of b).shift_factor g i), mul-le-mul (flowgate_size_lem g h) (factor_size_lem g i h k))

  pub congestion_room : (g i : ℕ) → g < f → i < r → ProductRoom ((certificate_of q).price (flowgate_row g)) ((case_of b).shift_factor g i)
  congestion_room g i h k =
      record {
        left = omega (arith, flowgate_size_lem g h);
        right = omega (arith, factor_size_lem g i h k);
        product = omega (arith, mul-le-mul (flowgate_size_lem g h) (factor_size_lem g i h k));
      }

  -- the sum over the first flowgates
  pub congestion_so_far : (n i : ℕ) → n ≤ f → i < r → nat_abs (sum_of (λ g. (certificate_of q).price (flowgate_row g) *ℤ (case_of b).shift_factor g i) (upto n)) ≤ n * 400000000
  congestion_so_far n i h k = upto-size (λ g. (certificate_of q).price (flowgate_row g) *ℤ (case_of b).shift_factor g i) 400000000 n (λ g l. congestion_size g i (omega arith) k)

  -- the LMP, by the code's counts
  pub lmp_is : (i : ℕ) → lmp_of (case_of b) (certificate_of q).price i
      ≡ (certificate_of q).price balance_row -ℤ sum_of (λ g. (certificate_of q).price (flowgate_row g) *ℤ (case_of b).shift_factor g i) (upto f)
  unfolding lmp_of
  lmp_is i = rw (← (flowgates_is s.case_bytes))

  pub lmp_room : (i : ℕ) → i < r → SumRoom ((certificate_of q).price balance_row) (sum_of (λ g. (certificate_of q).price (flowgate_row g) *ℤ (case_of b).shift_factor g i) (upto f))
  lmp_room i k = omega (arith, balance_size, congestion_so_far f i (omega arith) k, s.case_bytes.counts.most_flowgates)

  -- of a curve that the case has not, the certificate has 0
  pub no_cleared : (k : Curve) → has_curve (case_of b).version k ≡ false → (certificate_of q).amount (cleared_quantity k) ≡ 0
  unfolding case_as certificate_as amount_at
  no_cleared k e = rw (one_version (version_in q) (version_in b), e)

  -- the market rows' prices, and a zone's
  pub market_small : SmallPrices (reserve_prices_of (certificate_of q).price market_row)
  unfolding reserve_prices_of
  market_small =
      record {
        operating = (prices_in_range.price (market_row operating) tt).le;
        regulating_plus_spinning = (prices_in_range.price (market_row regulating_plus_spinning) tt).le;
        regulating = (prices_in_range.price (market_row regulating) tt).le;
        short_term = (prices_in_range.price (market_row short_term) tt).le;
      }

  pub zone_small : (y : ℕ) → y < z → SmallPrices (reserve_prices_of (certificate_of q).price (zone_row y))
  unfolding reserve_prices_of
  zone_small y h =
      record {
        operating = (prices_in_range.price (zone_row y operating) (zone_below h, tt)).le;
        regulating_plus_spinning = (prices_in_range.price (zone_row y regulating_plus_spinning) (zone_below h, tt)).le;
        regulating = (prices_in_range.price (zone_row y regulating) (zone_below h, tt)).le;
        short_term = (prices_in_range.price (zone_row y short_term) (zone_below h, tt)).le;
      }

pub zone_prices_are : (y : Prices) (zone : ℕ) → added_prices (reserve_prices_of y market_row) (reserve_prices_of y (zone_row zone)) ≡ zone_prices_of y zone
unfolding added_prices reserve_prices_of zone_prices_of zone_regulating_price zone_spinning_price zone_supplemental_price zone_short_term_price
zone_prices_are y zone = refl

-- ---- amounts within their bounds
module _ {b q : List ℕ} {r z f : ℕ} (s : Standing b q r z f) where
  pub amount_small : (i : ℕ) (v : Service) → T (has_service (case_of b).version v) → i < r → (certificate_of q).amount (provided_quantity i v) ≤ most_provided v
  amount_small i v t h = amount_of (case_of b) (case_ranges s.prices) (certificate_of q).amount s.bounded (provided_quantity i v) (resource_below s.prices h, t)

  pub amounts_small : (i : ℕ) → i < r → SmallAmounts (amounts_of (certificate_of q).amount i)
  unfolding amounts_of
  amounts_small i h =
      record {
        energy = amount_small i energy tt h;
        regulation = amount_small i regulation tt h;
        contingency = amount_small i contingency tt h;
        on_line_short_term = amount_small i on_line_short_term tt h;
        off_line_short_term = amount_small i off_line_short_term tt h;
      }
