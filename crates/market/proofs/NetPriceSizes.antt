-- How large LMPs, zone prices, net prices and offers are: so many times the highest price of a row.
use Prim.Native.Nat.{ℕ, ◌*◌, ◌-◌, ◌<◌, ◌≤◌}
use native.Mathlib.Nat.{le_refl}
use native.Mathlib.Omega.{arith}
use lib.IntN.{ℤ, pos, nat_abs, ◌*ℤ◌}
use lib.Dec.{T}
use Rattle.arith.specs.Sums.{size_of, upto}
use Rattle.arith.proofs.Magnitudes.{Size, size_nat, size_more, size-add, size-sub, size-neg, size-mul}
use Rattle.arith.proofs.NaturalSums.{total_most, size-sum}
use Rattle.market.specs.Case.{Case, Curve, zoned, operating, regulating_plus_spinning, regulating, short_term, energy_steps}
use Rattle.market.specs.CaseCheck.{most_flowgates}
use Rattle.market.specs.UpperBounds.{Service, energy, regulation, contingency, on_line_short_term, off_line_short_term, ramping_up, ramping_down, charging, has_service, provided_quantity}
use Rattle.market.specs.Rows.{balance_row, market_row, zone_row, flowgate_row, limit_row, Limit, has_limit, max_with_reserve, max_with_short_term, minimum, high, low, is_spinning}
use Rattle.market.specs.Certificate.{Prices}
use Rattle.market.specs.Cost.{Priced, priced_energy_step, priced_whole, priced_curve_step, quantity_of, service_price, offer}
use Rattle.market.specs.Bound.{net_price}
use Rattle.market.specs.Prices.{lmp_of, both_rows, zone_regulating_price, zone_spinning_price, zone_supplemental_price, zone_short_term_price}
use Rattle.market.specs.InWords.{Placed, NetPricesInWords}
use Rattle.market.proofs.NetPrices.{net_prices_in_words}
use Rattle.market.proofs.Versions.{zoned_is_curve, no_ramping, no_storing}
use Rattle.market.proofs.Families.{PricedOf, PricedWhole}
use Rattle.market.specs.Sizes.{most_cents, most_price, most_lmp, most_regulating_price, most_spinning_price, most_supplemental_price, most_short_term_price, most_net}
use Rattle.market.proofs.Ranges.{CaseRanges, PriceRanges}
use Rattle.market.proofs.LimitSizes.{size-if}

module _ (c : Case) (y : Prices) (h : CaseRanges c) (p : PriceRanges c y) where
  flowgate_size_lem : (f i : ℕ) → f < c.flowgates → i < c.resources → Size (y (flowgate_row f) *ℤ c.shift_factor f i) most_price
  flowgate_size_lem f i m n = size-mul (p.price (flowgate_row f) m) (h.shift_factor f i m n)

  pub flowgates_most : (i : ℕ) → i < c.resources → size_of (λ f. y (flowgate_row f) *ℤ c.shift_factor f i) (upto c.flowgates) ≤ most_flowgates * most_price
  flowgates_most i n =
      omega (
        arith,
        total_most (λ f. nat_abs (y (flowgate_row f) *ℤ c.shift_factor f i)) most_price c.flowgates (λ f m. (flowgate_size_lem f i m n).le),
        h.counts.most_flowgates,
      )

  pub lmp_size : (i : ℕ) → i < c.resources → Size (lmp_of c y i) most_lmp
  unfolding lmp_of
  lmp_size i n =
      size_more (size-sub (p.price balance_row tt) (size-sum (λ f. y (flowgate_row f) *ℤ c.shift_factor f i) (upto c.flowgates) (flowgates_most i n))) (omega arith)

  module _ (z : ℕ) (m : z < c.zones) where
    both_size : (k : Curve) → T (zoned k) → Size (both_rows y z k) (2 * most_price)
    both_size k l = size-add (p.price (market_row k) (zoned_is_curve c.version k l)) (p.price (zone_row z k) (m, l))

    pub supplemental_size : Size (zone_supplemental_price y z) most_supplemental_price
    unfolding zone_supplemental_price
    supplemental_size = both_size operating tt

    pub spinning_size : Size (zone_spinning_price y z) most_spinning_price
    unfolding zone_spinning_price
    spinning_size = size-add (both_size operating tt) (both_size regulating_plus_spinning tt)

    pub regulating_size : Size (zone_regulating_price y z) most_regulating_price
    unfolding zone_regulating_price
    regulating_size = size-add (size-add (both_size operating tt) (both_size regulating_plus_spinning tt)) (both_size regulating tt)

    pub short_term_size : Size (zone_short_term_price y z) most_short_term_price
    unfolding zone_short_term_price
    short_term_size = both_size short_term tt

  -- an offer in thousandths
  offered : {v : ℤ} → Size v most_cents → Size (pos 1000 *ℤ v) most_price
  offered k = size-mul (size_nat (le_refl 1000)) k

  words : NetPricesInWords c y
  words = net_prices_in_words c y

  module _ (i : ℕ) (n : i < c.resources) where
    -- its zone, counted from 0
    abbrev z : ℕ
    z = (c.resource i).zone - 1

    placed : Placed c i z
    placed =
        let r = h.resource i n in
        record { below = n; zoned = omega (arith, r.zone_from); zone_below = omega (arith, r.zone_from, r.zone_to) }

    own : (l : Limit) → T (has_limit c.version l) → Size (y (limit_row i l)) most_price
    own l m = p.price (limit_row i l) (n, m)

    pub net_energy : (j : ℕ) → j < energy_steps → Size (net_price c y (priced_energy_step i j)) (most_net (provided_quantity i energy))
    net_energy j m =
        rw (words.energy_step i j z placed)
        (size-add (size-sub (offered ((h.resource i n).step_price j m)) (lmp_size i n))
        (size-sub (size-add (size-sub (size-add (own max_with_reserve tt) (own max_with_short_term tt)) (own minimum tt)) (own high tt)) (own low tt)))

    net_whole : (s : Service) → T (has_service c.version s) → PricedWhole s → Size (net_price c y (priced_whole i s)) (most_net (provided_quantity i s))
    net_whole energy t w = absurd w
    net_whole regulation t w =
        rw (words.regulation_price i z placed)
        (size-add (size-sub (offered (size_nat (h.resource i n).regulating_price)) (regulating_size z placed.zone_below)) (size-add (own max_with_reserve tt) (own minimum tt)))
    net_whole contingency t w =
        rw (words.contingency_price i z placed)
        (size-add (size-sub (offered (size_nat (h.resource i n).contingency_price))
        (size-if (is_spinning (c.resource i)) (spinning_size z placed.zone_below) (size_more (supplemental_size z placed.zone_below) (omega arith)))) (own max_with_reserve tt))
    net_whole on_line_short_term t w = rw (words.on_line_short_term i z placed) (size-sub (own max_with_short_term tt) (short_term_size z placed.zone_below))
    net_whole off_line_short_term t w =
        rw (words.off_line_short_term i z placed) (size-sub (offered (size_nat (h.resource i n).off_line_short_term_price)) (short_term_size z placed.zone_below))
    net_whole ramping_up t w = absurd (no_ramping c.version t)
    net_whole ramping_down t w = absurd (no_ramping c.version t)
    net_whole charging t w = absurd (no_storing c.version t)

  pub net_size : (q : Priced) → PricedOf c q → Size (net_price c y q) (most_net (quantity_of q))
  unfolding quantity_of
  net_size (priced_energy_step i j) m = net_energy i m.0 j m.1
  net_size (priced_whole i s) m = net_whole i m.0 s m.1.0 m.1.1
  net_size (priced_curve_step k j) m = rw (words.curve_step k m.1 j) (size-sub (p.price (market_row k) m.1) (offered (size_nat (h.curve_price k m.1 j m.0))))

-- ---- offers
pub offer_size : (c : Case) → CaseRanges c → (p : Priced) → PricedOf c p → Size (offer c p) most_cents
unfolding offer service_price
offer_size c h (priced_energy_step i j) m = (h.resource i m.0).step_price j m.1
offer_size c h (priced_whole i energy) m = size_nat (omega arith)
offer_size c h (priced_whole i regulation) m = size_nat (h.resource i m.0).regulating_price
offer_size c h (priced_whole i contingency) m = size_nat (h.resource i m.0).contingency_price
offer_size c h (priced_whole i on_line_short_term) m = size_nat (omega arith)
offer_size c h (priced_whole i off_line_short_term) m = size_nat (h.resource i m.0).off_line_short_term_price
offer_size c h (priced_whole i ramping_up) m = size_nat (omega arith)
offer_size c h (priced_whole i ramping_down) m = size_nat (omega arith)
offer_size c h (priced_whole i charging) m = size_nat (omega arith)
offer_size c h (priced_curve_step k j) m = size-neg (size_nat (h.curve_price k m.1 j m.0))
