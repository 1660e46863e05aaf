-- What is known of the records from which a resource's net prices are made, and what they make.
use mathlib.Core.Path.{◌≡◌, refl, ap}
use mathlib.Core.Bool.{Bool, true, false, cond}
use Prim.Native.Nat.{ℕ, ◌-◌, ◌<◌}
use native.Mathlib.Omega.{arith}
use lib.IntN.{ℤ, pos, ◌+ℤ◌, ◌-ℤ◌, ◌*ℤ◌}
use Rattle.arith.proofs.Linear.{sorted, count}
use Rattle.arith.proofs.Magnitudes.{Size, size-add, size-sub}
use lib.Dec.{T}
use Rattle.market.specs.Case.{Case, Resource}
use Rattle.market.specs.declared.Resource.{Resource as Record}
use Rattle.market.specs.UpperBounds.{regulation, contingency, on_line_short_term, off_line_short_term}
use Rattle.market.specs.Rows.{limit_row, Limit, max_with_reserve, max_with_short_term, minimum, high, low, is_spinning, has_limit}
use Rattle.market.specs.Certificate.{Prices}
use Rattle.market.specs.Cost.{priced_energy_step, priced_whole, quantity_of}
use Rattle.market.specs.Bound.{net_price}
use Rattle.market.specs.Prices.{lmp_of, zone_spinning_price, zone_supplemental_price}
use Rattle.market.specs.InWords.{limit_prices, Placed, NetPricesInWords}
use Rattle.market.specs.Sizes.{most_price}
use Rattle.market.specs.Records.{millicents, record_of, state_of, reserve_offers_of, limit_prices_of}
use Rattle.market.proofs.NetPrices.{net_prices_in_words}
use Rattle.market.proofs.Ranges.{CaseRanges, PriceRanges}
use Rattle.market.proofs.NetPriceSizes.{lmp_size, regulating_size, spinning_size, supplemental_size, short_term_size, net_size}
use Rattle.prices.specs.ZonePrices.{zone_prices_of}
use Rattle.net_prices.specs.NetPrices.{nets_of, nets_from}
use Rattle.net_prices.specs.Sizes.{SmallOffers, SmallLimitPrices, SmallZonePrices, SmallLmp, SmallNets}

-- by a test, of prices and of what they are
chosen : (t : Bool) (a b : ℤ) → (cond t (millicents a) (millicents b)).0 ≡ cond t a b
chosen true a b = refl
chosen false a b = refl

-- ---- of a case and prices in their ranges
module _ (c : Case) (y : Prices) (h : CaseRanges c) (p : PriceRanges c y) (i : ℕ) (n : i < c.resources) where
  -- its zone, counted from 0
  abbrev pub zone_of : ℕ
  zone_of = (c.resource i).zone - 1

  pub placed : Placed c i zone_of
  placed =
      let r = h.resource i n in
      record { below = n; zoned = omega (arith, r.zone_from); zone_below = omega (arith, r.zone_from, r.zone_to) }

  own_size : (l : Limit) → T (has_limit c.version l) → Size (y (limit_row i l)) most_price
  own_size l t = p.price (limit_row i l) (n, t)

  pub offers_small : SmallOffers (reserve_offers_of (c.resource i))
  unfolding reserve_offers_of
  offers_small =
      let r = h.resource i n in
      record { regulating = r.regulating_price; contingency = r.contingency_price; off_line_short_term = r.off_line_short_term_price }

  pub limit_prices_small : SmallLimitPrices (limit_prices_of y i)
  unfolding limit_prices_of
  limit_prices_small =
      record {
        max_with_reserve = (own_size max_with_reserve tt).le;
        max_with_short_term = (own_size max_with_short_term tt).le;
        minimum = (own_size minimum tt).le;
        high = (own_size high tt).le;
        low = (own_size low tt).le;
      }

  pub lmp_small : SmallLmp (millicents (lmp_of c y i))
  lmp_small = (lmp_size c y h p i n).le

  pub zone_prices_small : SmallZonePrices (zone_prices_of y zone_of)
  unfolding zone_prices_of
  zone_prices_small =
      let m = placed.zone_below in
      record {
        regulating = (regulating_size c y h p zone_of m).le;
        spinning = (spinning_size c y h p zone_of m).le;
        supplemental = (supplemental_size c y h p zone_of m).le;
        short_term = (short_term_size c y h p zone_of m).le;
      }

  -- ---- the net prices
  words : NetPricesInWords c y
  words = net_prices_in_words c y

  -- from what is read
  pub nets_are : nets_from (reserve_offers_of (c.resource i)) (is_spinning (c.resource i)) (limit_prices_of y i) (millicents (lmp_of c y i)) (zone_prices_of y zone_of) ≡ nets_of c y i
  unfolding nets_from nets_of reserve_offers_of limit_prices_of zone_prices_of
  nets_are =
      rw (words.regulation_price i zone_of placed, words.contingency_price i zone_of placed, words.on_line_short_term i zone_of placed, words.off_line_short_term i zone_of placed, chosen (is_spinning (c.resource i)) (zone_spinning_price y zone_of) (zone_supplemental_price y zone_of))

  -- a step adds 1000 × its price
  pub step_is : (j : ℕ) → pos 1000 *ℤ (c.resource i).step_price j +ℤ (limit_prices y i -ℤ lmp_of c y i) ≡ net_price c y (priced_energy_step i j)
  step_is j = rw (words.energy_step i j zone_of placed) (ring (pos 1000 *ℤ (c.resource i).step_price j) (lmp_of c y i) (limit_prices y i))
    where
      ring : (p l r : ℤ) → p +ℤ (r -ℤ l) ≡ p -ℤ l +ℤ r
      ring p l r = simp sorted (simp count (omega arith))

  pub nets_small : SmallNets (nets_of c y i)
  unfolding nets_of quantity_of
  nets_small =
      record {
        energy = (size-sub (size-sub (size-add (size-sub (size-add (own_size max_with_reserve tt) (own_size max_with_short_term tt)) (own_size minimum tt)) (own_size high tt)) (own_size low tt)) (lmp_size c y h p i n)).le;
        regulation = (net_size c y h p (priced_whole i regulation) (n, (tt, tt))).le;
        contingency = (net_size c y h p (priced_whole i contingency) (n, (tt, tt))).le;
        on_line_short_term = (net_size c y h p (priced_whole i on_line_short_term) (n, (tt, tt))).le;
        off_line_short_term = (net_size c y h p (priced_whole i off_line_short_term) (n, (tt, tt))).le;
      }

-- the zone in a resource's record
pub zone_is : {x : Record} (s : Resource) → x ≡ record_of s → x.state.zone ≡ s.zone
unfolding record_of state_of
zone_is s e = ap (λ (x : Record). x.state.zone) e
