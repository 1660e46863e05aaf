-- What is known of the records that are read of a standing case and certificate: that they are small enough for their
-- charges, and that they make the definition's lists.
use Rattle.market.specs.declared.Step.{Step}
use Rattle.market.specs.declared.PerService.{PerService}
use Rattle.market.specs.declared.PerCurve.{PerCurve}
use mathlib.Core.Path.{ap, ◌≡◌, refl, ◌∙◌}
use mathlib.Core.Bool.{Bool}
use mathlib.Core.List.{List, ◌++◌, map}
use Prim.Native.Nat.{ℕ, ◌+◌, ◌*◌, ◌<◌}
use lib.IntN.{ℤ, nat_abs}
use lib.ListN.{length, drop, length-map}
use Rattle.arith.specs.Sums.{upto, across}
use Rattle.arith.proofs.Lists.{length-across, length-upto}
use lib.Dec.{T}
use Rattle.market.specs.Case.{Case, has_curve, curves, energy_steps}
use Rattle.market.specs.declared.Curve.{Curve}
use Rattle.market.specs.declared.Curve.TheVariants.{Operating as operating, RegulatingPlusSpinning as regulating_plus_spinning, Regulating as regulating, ShortTerm as short_term}
use Rattle.market.specs.CaseFile.{case_of}
use Rattle.market.specs.Availability.{on_line}
use Rattle.market.specs.UpperBounds.{Schedule, cleared_quantity}
use Rattle.market.specs.Rows.{market_row, rows, row_count_of}
use Rattle.market.specs.Certificate.{Prices, certificate_of}
use Rattle.market.specs.Cost.{curve_priced, priced, resource_priced_count, priced_count_of}
use Rattle.market.specs.Charges.{row_charge, priced_charge, charges, charge_count}
use Rattle.market.specs.Records.{power, millicents, offer_steps_of, amounts_of, curve_steps_of, reserve_prices_of, cleared_of}
use Rattle.market.specs.declared.Kw.{Kw}
use Rattle.market.specs.declared.Millicents.{Millicents}
use Rattle.market.specs.Sizes.{most_power}
use Rattle.market.proofs.Lengths.{row_count_lem}
use Rattle.case_records.specs.Ranged.{UpTo}
use Rattle.case_records.proofs.Places.{resources_is, zones_is, flowgates_is}
use Rattle.prices.specs.Standing.{Standing}
use Rattle.prices.proofs.Known.{case_ranges, prices_in_range, resource_below}
use Rattle.net_prices.specs.NetPrices.{nets_of}
use Rattle.limits.specs.declared.ReserveBounds.{ReserveBounds}
use Rattle.capabilities.specs.Sizes.{SmallBounds}
use Rattle.limits.specs.Together.{reserve_bounds_of}
use Rattle.capabilities.proofs.Sizes.{bounds_small}
use Rattle.costs.proofs.Known.{energy_known, cleared_known}
use Rattle.charges.specs.Sizes.{CurveRoom}
use Rattle.charges.specs.Terms.{charge_in, resource_charges, energy_charge, reserve_charges, curve_charge}
use Rattle.charges.proofs.Families.{resource_is, resource_count, curve_is, curves_are, priced_are}

module _ {b q : List ℕ} {r z f : ℕ} (s : Standing b q r z f) where
  abbrev c : Case
  c = case_of b

  abbrev x : Schedule
  x = (certificate_of q).amount

  abbrev y : Prices
  y = (certificate_of q).price

  -- ---- a resource
  module _ {i : ℕ} (l : i < r) where
    pub energy_fits : {a : (PerService Kw)} → a ≡ amounts_of x i → UpTo a.energy.0 most_power
    energy_fits d = rw d (energy_known s i l)

    pub bounds_fit : {u : ReserveBounds} → u ≡ reserve_bounds_of c (c.resource i) → SmallBounds u
    bounds_fit e = rw e (bounds_small c (case_ranges s.prices) i (resource_below s.prices l))

    -- ten steps, then reserves
    pub resource_listed : {n : (PerService Millicents)} {on : Bool} {o : (List Step)} {a : (PerService Kw)} {u : ReserveBounds} →
        n ≡ nets_of c y i → on ≡ on_line (c.resource i) → o ≡ offer_steps_of (c.resource i) → a ≡ amounts_of x i → u ≡ reserve_bounds_of c (c.resource i) →
        map (energy_charge n on o (nat_abs a.energy.0)) (upto energy_steps) ++ reserve_charges n a u ≡ resource_charges b q i
    unfolding amounts_of
    resource_listed en eo es ea eu = rw (en, eo, es, ea, eu) (resource_is c x y (case_ranges s.prices) (prices_in_range s.prices) i (resource_below s.prices l))

  -- ---- a curve
  pub curve_fits : (k : Curve) → T (has_curve c.version k) → CurveRoom (millicents (y (market_row k))) (power (x (cleared_quantity k)))
  curve_fits k h = record { row_price = ((prices_in_range s.prices).price (market_row k) h).le; cleared = cleared_known s k }

  -- ---- all
  pub all_listed : across (resource_charges b q) (upto r) ++ map (charge_in b q) (across curve_priced (curves (case_of b).version)) ≡ map (charge_in b q) (priced c)
  all_listed = rw (resources_is s.prices.case_bytes) (priced_are c x y)

  -- the rows' charges, by the code's count
  pub rows_counted : length (map (row_charge c x y) (rows c)) ≡ row_count_of (case_of b).version r z f
  rows_counted = rw (resources_is s.prices.case_bytes, zones_is s.prices.case_bytes, flowgates_is s.prices.case_bytes) (length-map (rows c) (row_charge c x y) ∙ row_count_lem c)

  -- and then those of what is priced
  pub charges_listed : (o : List ℤ) → (map (row_charge c x y) (rows c) ++ map (priced_charge c x y) (priced c)) ++ drop (row_count_of (case_of b).version r z f + priced_count_of (case_of b).version r) o ≡ charges c x y ++ drop (charge_count c) o
  unfolding charges
  charges_listed o =
      let e : row_count_of (case_of b).version r z f + priced_count_of (case_of b).version r ≡ charge_count c = rw (resources_is s.prices.case_bytes, zones_is s.prices.case_bytes, flowgates_is s.prices.case_bytes) refl in
      rw e

-- ---- the curves that are read
-- eight charges for two
pub pair_count : (first second : ℕ → ℤ) → length (map first (upto 4) ++ map second (upto 4)) ≡ 8
unfolding upto
pair_count first second = refl

module _ (b q : List ℕ) where
  curve_listed : (k : Curve) → T (has_curve (case_of b).version k) → {p : Millicents} {o : (List Step)} {a : Kw} →
      p ≡ millicents ((certificate_of q).price (market_row k)) → o ≡ curve_steps_of (case_of b) k → a ≡ power ((certificate_of q).amount (cleared_quantity k)) →
      map (curve_charge p o (nat_abs a.0)) (upto 4) ≡ map (charge_in b q) (curve_priced k)
  curve_listed k h e d g = (λ i. map (curve_charge (e i) (d i) (nat_abs (g i).0)) (upto 4)) ∙ curve_is (case_of b) (certificate_of q).amount (certificate_of q).price k h

  pub curves_listed : {p : (PerCurve Millicents)} {a : (PerCurve Kw)} {first second third fourth : (List Step)} →
      p ≡ reserve_prices_of (certificate_of q).price market_row → a ≡ cleared_of (certificate_of q).amount →
      first ≡ curve_steps_of (case_of b) operating → second ≡ curve_steps_of (case_of b) regulating_plus_spinning → third ≡ curve_steps_of (case_of b) regulating → fourth ≡ curve_steps_of (case_of b) short_term →
      (map (curve_charge p.operating first (nat_abs a.operating.0)) (upto 4) ++ map (curve_charge p.regulating_plus_spinning second (nat_abs a.regulating_plus_spinning.0)) (upto 4))
      ++ (map (curve_charge p.regulating third (nat_abs a.regulating.0)) (upto 4) ++ map (curve_charge p.short_term fourth (nat_abs a.short_term.0)) (upto 4))
      ≡ map (charge_in b q) (across curve_priced (curves (case_of b).version))
  unfolding reserve_prices_of cleared_of
  curves_listed e g d₁ d₂ d₃ d₄ =
      let one = curve_listed operating tt (λ i. (e i).operating) d₁ (λ i. (g i).operating) in
      let two = curve_listed regulating_plus_spinning tt (λ i. (e i).regulating_plus_spinning) d₂ (λ i. (g i).regulating_plus_spinning) in
      let three = curve_listed regulating tt (λ i. (e i).regulating) d₃ (λ i. (g i).regulating) in
      let four = curve_listed short_term tt (λ i. (e i).short_term) d₄ (λ i. (g i).short_term) in
      (λ i. (one i ++ two i) ++ (three i ++ four i))
      ∙ curves_are (case_of b) (certificate_of q).amount (certificate_of q).price

  -- ---- each resource has as many
  pub resources_count : (n : ℕ) → length (across (resource_charges b q) (upto n)) ≡ n * resource_priced_count (case_of b).version
  resources_count n =
      length-across (resource_charges b q) (resource_priced_count (case_of b).version) (resource_count (case_of b) (certificate_of q).amount (certificate_of q).price) (upto n)
      ∙ ap (λ (m : ℕ). m * resource_priced_count (case_of b).version) (length-upto n)
