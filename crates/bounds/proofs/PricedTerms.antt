-- The priced quantities' part of the bound: what the records of a case and net prices make of it; then the whole
-- bound.
use Rattle.market.specs.declared.Step.{Step}
use mathlib.Core.Path.{◌≡◌, refl, sym, ◌∙◌, ap, subst}
use lib.Dec.{T}
use mathlib.Core.Bool.{Bool, true, false, cond}
use mathlib.Core.List.{List, map}
use Prim.Native.Nat.{ℕ, ◌<◌}
use native.Mathlib.Omega.{arith}
use lib.IntN.{ℤ, pos, ◌+ℤ◌, ◌-ℤ◌, ◌*ℤ◌, +ℤ_idr, *ℤ-zero}
use Rattle.arith.specs.Sums.{sum_of, min_ℤ, upto, across}
use Rattle.arith.proofs.Lists.{each-upto, each-any}
use Rattle.arith.proofs.Linear.{sorted, count}
use Rattle.arith.proofs.Sums.{sum-each-ext, all-zero-sum, append_sums, sum-add, sum-map, sum-across}
use Rattle.market.specs.Version.{version_in}
use Rattle.market.specs.declared.version.Version.{Version}
use Rattle.market.specs.declared.version.Version.TheVariants.{First as first}
use Rattle.market.specs.Case.{Case, has_curve, curves, energy_steps, curve_steps}
use Rattle.market.specs.declared.Curve.{Curve}
use Rattle.market.specs.declared.Curve.TheVariants.{Operating as operating, RegulatingPlusSpinning as regulating_plus_spinning, Regulating as regulating, ShortTerm as short_term}
use Rattle.market.specs.CaseFile.{case_of, case_as}
use Rattle.market.specs.declared.Grains.{Grains}
use Rattle.market.specs.declared.Millicents.{Millicents}
use Rattle.market.specs.Availability.{on_line}
use Rattle.market.specs.UpperBounds.{Service, regulation, contingency, on_line_short_term, off_line_short_term, reserve_services}
use Rattle.market.specs.Rows.{balance_row, market_row, rows}
use Rattle.market.specs.Certificate.{Prices, certificate_of}
use Rattle.market.specs.Cost.{priced_energy_step, priced_whole, priced_curve_step, priced_of, curve_priced, priced, priced_upper_bound}
use Rattle.market.specs.Bound.{net_price, lowest}
use Rattle.market.specs.Records.{power, millicents, offer_step_of, offer_steps_of, curve_step_of, curve_steps_of}
use Rattle.market.proofs.NetPrices.{net_prices_in_words}
use Rattle.market.proofs.Ranges.{CaseRanges, PriceRanges}
use Rattle.case_records.specs.Ranged.{offer_step, curve_step}
use Rattle.case_records.proofs.Places.{resources_is}
use Rattle.case_records.proofs.Ranged.{offer_step_is, curve_step_is}
use Rattle.limits.specs.Together.{reserve_bounds_of}
use Rattle.prices.specs.Standing.{PricesStand}
use Rattle.net_prices.specs.NetPrices.{nets_of}
use Rattle.net_prices.proofs.Known.{step_is}
use Rattle.units.specs.Sized.{Sized}
use Rattle.bounds.specs.Terms.{row_term, priced_term, zone_terms, flowgate_term, limit_terms, least_terms, resource_terms, step_least, reserves_least, curve_step_least}
use Rattle.bounds.proofs.RowTerms.{over_market, rows_are}

chosen : (t : Bool) (w : ℕ) → (cond t (power w) (power 0)).0 ≡ pos (cond t w 0)
chosen true w = refl
chosen false w = refl

-- ---- what the records make: a resource
over_reserves : (version : Version) (f : Service → ℤ) → f regulation +ℤ (f contingency +ℤ (f on_line_short_term +ℤ f off_line_short_term)) ≡ sum_of f (reserve_services version)
unfolding sum_of
over_reserves first f = rw (+ℤ_idr (f off_line_short_term))

module _ (c : Case) (y : Prices) (h : CaseRanges c) (p : PriceRanges c y) (i : ℕ) (n : i < c.resources) where
  pub step_least_is : (j : ℕ) → j < energy_steps → step_least (nets_of c y i) (on_line (c.resource i)) (offer_step (offer_steps_of (c.resource i)) j) ≡ lowest c y (priced_energy_step i j)
  unfolding step_least nets_of offer_step_of lowest priced_upper_bound
  step_least_is j l = rw (offer_step_is (c.resource i) j l, step_is c y h p i n j, chosen (on_line (c.resource i)) ((c.resource i).step_width j))

  steps_least_are : sum_of (λ j. step_least (nets_of c y i) (on_line (c.resource i)) (offer_step (offer_steps_of (c.resource i)) j)) (upto energy_steps) ≡ sum_of (λ j. lowest c y (priced_energy_step i j)) (upto energy_steps)
  steps_least_are = sum-each-ext _ _ (upto energy_steps) (each-upto _ energy_steps step_least_is)

  reserves_least_are : reserves_least (nets_of c y i) (reserve_bounds_of c (c.resource i)) ≡ sum_of (lowest c y) (map (priced_whole i) (reserve_services c.version))
  unfolding reserves_least nets_of reserve_bounds_of lowest priced_upper_bound
  reserves_least_are = over_reserves c.version (λ s. lowest c y (priced_whole i s)) ∙ sym (sum-map (lowest c y) (priced_whole i) (reserve_services c.version))

  pub resource_least_is : sum_of (λ j. step_least (nets_of c y i) (on_line (c.resource i)) (offer_step (offer_steps_of (c.resource i)) j)) (upto energy_steps)
      +ℤ reserves_least (nets_of c y i) (reserve_bounds_of c (c.resource i))
      ≡ sum_of (lowest c y) (priced_of c.version i)
  resource_least_is =
      sym
      (append_sums (lowest c y) (map (priced_energy_step i) (upto energy_steps)) (map (priced_whole i) (reserve_services c.version))
      (sum-map (lowest c y) (priced_energy_step i) (upto energy_steps) ∙ sym steps_least_are)
      (sym reserves_least_are))

-- ---- a curve that a case has
pub had_step_least : (c : Case) (y : Prices) (k : Curve) → T (has_curve c.version k) → (j : ℕ) → j < curve_steps → curve_step_least (millicents (y (market_row k))) (curve_step (curve_steps_of c k) j) ≡ lowest c y (priced_curve_step k j)
unfolding curve_step_least curve_step_of lowest priced_upper_bound
had_step_least c y k t j l = rw (curve_step_is c k j l, (net_prices_in_words c y).curve_step k t j)

-- ---- the curves of a file's case: one that it has not has widths 0 and adds 0
module _ (b : List ℕ) (y : Prices) where
  abbrev c : Case
  c = case_of b

  none_least : (k : Curve) (j : ℕ) → has_curve (version_in b) k ≡ false → lowest c y (priced_curve_step k j) ≡ pos 0
  unfolding case_as lowest priced_upper_bound min_ℤ
  none_least k j e = rw e (ap (min_ℤ (pos 0)) (*ℤ-zero (net_price c y (priced_curve_step k j))))

  none_step_least : (k : Curve) (j : ℕ) → has_curve (version_in b) k ≡ false → curve_step_least (millicents (y (market_row k))) (curve_step_of c k j) ≡ pos 0
  unfolding case_as curve_step_least curve_step_of min_ℤ
  none_step_least k j e = rw e (ap (min_ℤ (pos 0)) (*ℤ-zero (y (market_row k) -ℤ pos 1000 *ℤ pos 0)))

  pub curve_step_least_is : (k : Curve) (j : ℕ) → j < curve_steps → curve_step_least (millicents (y (market_row k))) (curve_step (curve_steps_of c k) j) ≡ lowest c y (priced_curve_step k j)
  unfolding case_as
  curve_step_least_is k j l = go (has_curve (version_in b) k) refl
    where
      go : (t : Bool) → has_curve (version_in b) k ≡ t → curve_step_least (millicents (y (market_row k))) (curve_step (curve_steps_of c k) j) ≡ lowest c y (priced_curve_step k j)
      go true e = had_step_least c y k (subst T (sym e) tt) j l
      go false e = rw (curve_step_is c k j l) (none_step_least k j e ∙ sym (none_least k j e))

  curve_least_is : (k : Curve) → sum_of (λ j. curve_step_least (millicents (y (market_row k))) (curve_step (curve_steps_of c k) j)) (upto curve_steps) ≡ sum_of (lowest c y) (curve_priced k)
  curve_least_is k = sum-each-ext _ _ (upto curve_steps) (each-upto _ curve_steps (curve_step_least_is k)) ∙ sym (sum-map (lowest c y) (priced_curve_step k) (upto curve_steps))

  -- of what was read
  pub curve_from_lem : (k : Curve) {p : Millicents} {o : (List Step)} {g : Grains} {m : ℕ} → p ≡ millicents (y (market_row k)) → o ≡ curve_steps_of c k →
      Sized g.0 (sum_of (λ j. curve_step_least p (curve_step o j)) (upto curve_steps)) m → Sized g.0 (sum_of (lowest c y) (curve_priced k)) m
  curve_from_lem k e d h = record { is = h.is ∙ rw (e, d) (curve_least_is k); size = h.size }

  none_adds : (k : Curve) → has_curve (version_in b) k ≡ false → sum_of (lowest c y) (curve_priced k) ≡ pos 0
  none_adds k e = sum-map (lowest c y) (priced_curve_step k) (upto curve_steps) ∙ all-zero-sum (λ j. lowest c y (priced_curve_step k j)) (upto curve_steps) (each-any _ (upto curve_steps) (λ j. none_least k j e))

  pub curves_are : sum_of (lowest c y) (curve_priced operating)
      +ℤ (sum_of (lowest c y) (curve_priced regulating_plus_spinning) +ℤ (sum_of (lowest c y) (curve_priced regulating) +ℤ sum_of (lowest c y) (curve_priced short_term)))
      ≡ sum_of (lowest c y) (across curve_priced (curves c.version))
  unfolding case_as
  curves_are = over_market (version_in b) (λ k. sum_of (lowest c y) (curve_priced k)) none_adds ∙ sym (sum-across (lowest c y) curve_priced (curves (version_in b)))

module _ (c : Case) (y : Prices) where
  all_priced : sum_of (λ i. sum_of (lowest c y) (priced_of c.version i)) (upto c.resources) +ℤ sum_of (lowest c y) (across curve_priced (curves c.version)) ≡ sum_of (lowest c y) (priced c)
  unfolding priced
  all_priced = sym (append_sums (lowest c y) (across (priced_of c.version) (upto c.resources)) (across curve_priced (curves c.version)) (sum-across (lowest c y) (priced_of c.version) (upto c.resources)) refl)

-- by the code's count
priced_are : {b q : List ℕ} {r z f : ℕ} → PricesStand b q r z f →
    sum_of (least_terms b q) (upto r) +ℤ sum_of (priced_term b q) (across curve_priced (curves (case_of b).version)) ≡ sum_of (priced_term b q) (priced (case_of b))
priced_are {b} {q} s = rw (resources_is s.case_bytes) (all_priced (case_of b) (certificate_of q).price)

-- ---- the bound: what no resource has, then resource by resource, then the curves
pub bound_is : {b q : List ℕ} {r z f : ℕ} → PricesStand b q r z f →
    row_term b q balance_row +ℤ (sum_of (zone_terms b q) (upto z) +ℤ sum_of (flowgate_term b q) (upto f)) +ℤ (sum_of (resource_terms b q) (upto r) +ℤ sum_of (priced_term b q) (across curve_priced (curves (case_of b).version)))
    ≡ sum_of (row_term b q) (rows (case_of b)) +ℤ sum_of (priced_term b q) (priced (case_of b))
bound_is {b} {q} {r} {z} {f} s =
    rw (sum-add (limit_terms b q) (least_terms b q) (upto r), ← rows_are s, ← priced_are s)
    (ring (row_term b q balance_row) (sum_of (zone_terms b q) (upto z)) (sum_of (flowgate_term b q) (upto f)) (sum_of (limit_terms b q) (upto r)) (sum_of (least_terms b q) (upto r)) (sum_of (priced_term b q) (across curve_priced (curves (case_of b).version))))
  where
    ring : (a z f l p c : ℤ) → a +ℤ (z +ℤ f) +ℤ (l +ℤ p +ℤ c) ≡ a +ℤ (z +ℤ (f +ℤ l)) +ℤ (p +ℤ c)
    ring a z f l p c = simp sorted (simp count (omega arith))
