-- The cost of a schedule, taken apart: resource by resource, energy steps and reserves, and curve by curve.
use Rattle.market.specs.declared.PerService.{PerService}
use Rattle.market.specs.declared.Kw.{Kw}
use mathlib.Core.Path.{◌≡◌, sym, ap, ◌∙◌}
use mathlib.Core.Bool.{false}
use mathlib.Core.List.{List, map}
use Prim.Native.Nat.{ℕ, ◌≤◌}
use native.Mathlib.Nat.{mul-le-mul}
use native.Mathlib.Omega.{arith}
use lib.IntN.{ℤ, pos, neg_ℤ, nat_abs, ◌+ℤ◌, ◌-ℤ◌, ◌*ℤ◌, +ℤ_idr}
use Rattle.arith.specs.Sums.{sum_of, upto, across}
use Rattle.arith.proofs.Order.{neg-*ℤ}
use Rattle.arith.proofs.Magnitudes.{abs-add, abs-mul}
use Rattle.arith.proofs.Sums.{sum-ext, sum-neg, sum-map, sum-across, append_sums}
use Rattle.market.specs.declared.version.Version.{Version}
use Rattle.market.specs.declared.version.Version.TheVariants.{First as first}
use Rattle.market.specs.Version.{version_in}
use Rattle.market.specs.Case.{Case, all_curves, has_curve, curves, energy_steps, curve_steps}
use Rattle.market.specs.CaseFile.{case_as, case_of}
use Rattle.market.proofs.Versions.{summed_over_all}
use Rattle.market.specs.declared.Curve.{Curve}
use Rattle.market.specs.declared.Curve.TheVariants.{Operating as operating, RegulatingPlusSpinning as regulating_plus_spinning, Regulating as regulating, ShortTerm as short_term}
use Rattle.market.specs.UpperBounds.{Schedule, provided_quantity, cleared_quantity, energy, reserve_services}
use Rattle.market.specs.Cost.{priced_energy_step, priced_whole, priced_curve_step, priced_of, curve_priced, priced, service_price, offer, part, cost}
use Rattle.market.specs.Records.{offer_step_of, offer_steps_of, curve_step_of, curve_steps_of, reserve_offers_of, record_of, amounts_of}
use Rattle.market.specs.declared.ReserveOffers.{ReserveOffers}
use Rattle.case_records.specs.Ranged.{offer_step, curve_step, RangedOffers}
use Rattle.case_records.proofs.Ranged.{offer_step_is, curve_step_is}
use Rattle.prices.specs.Standing.{SmallAmounts}
use Rattle.costs.specs.Steps.{steps_worth}
use Rattle.costs.specs.Worth.{worth_of, resource_worth, curve_value, reserves_worth}
use Rattle.costs.proofs.Filling.{steps_worth_is}

-- ---- a price and an amount of a resource
module _ (p a : ℤ) (price : nat_abs p ≤ 400000) (amount : nat_abs a ≤ 2000000) where
  pub offer_size : nat_abs (p *ℤ a) ≤ 800000000000
  offer_size = omega (arith, abs-mul p a, mul-le-mul price amount)

module _ {p : ReserveOffers} {a : (PerService Kw)} (h : RangedOffers p) (k : SmallAmounts a) where
  pub regulation_size : nat_abs (p.regulating.0 *ℤ a.regulation.0) ≤ 800000000000
  regulation_size = offer_size p.regulating.0 a.regulation.0 h.regulating.at_most k.regulation

  pub contingency_size : nat_abs (p.contingency.0 *ℤ a.contingency.0) ≤ 800000000000
  contingency_size = offer_size p.contingency.0 a.contingency.0 h.contingency.at_most k.contingency

  pub short_term_size : nat_abs (p.off_line_short_term.0 *ℤ a.off_line_short_term.0) ≤ 800000000000
  short_term_size = offer_size p.off_line_short_term.0 a.off_line_short_term.0 h.off_line_short_term.at_most k.off_line_short_term

  -- c and o
  pub last_size : nat_abs (p.contingency.0 *ℤ a.contingency.0 +ℤ p.off_line_short_term.0 *ℤ a.off_line_short_term.0) ≤ 1600000000000
  last_size = omega (arith, abs-add (p.contingency.0 *ℤ a.contingency.0) (p.off_line_short_term.0 *ℤ a.off_line_short_term.0), contingency_size, short_term_size)

  pub reserves_size : nat_abs (reserves_worth p a) ≤ 2400000000000
  unfolding reserves_worth
  reserves_size =
      let last = p.contingency.0 *ℤ a.contingency.0 +ℤ p.off_line_short_term.0 *ℤ a.off_line_short_term.0 in
      omega (arith, abs-add (p.regulating.0 *ℤ a.regulation.0) last, regulation_size, last_size)

-- ---- over the curves, as they are added up
added_up : (g : Curve → ℤ) → sum_of g all_curves ≡ g operating +ℤ (g regulating_plus_spinning +ℤ (g regulating +ℤ g short_term))
unfolding sum_of
added_up g = rw (+ℤ_idr (g short_term))

-- one that a file has not is worth 0
absent_value : (b : List ℕ) (x : Schedule) (k : Curve) → has_curve (version_in b) k ≡ false → curve_value (case_of b) x k ≡ pos 0
unfolding curve_value case_as sum_of upto
absent_value b x k e = rw e (ap pos (omega arith))

pub curves_added_up : (b : List ℕ) (x : Schedule) → sum_of (curve_value (case_of b) x) (curves (case_of b).version)
    ≡ curve_value (case_of b) x operating +ℤ (curve_value (case_of b) x regulating_plus_spinning +ℤ (curve_value (case_of b) x regulating +ℤ curve_value (case_of b) x short_term))
unfolding case_as
curves_added_up b x = summed_over_all (version_in b) (curve_value (case_of b) x) (absent_value b x) ∙ added_up (curve_value (case_of b) x)

-- ---- of a case and a schedule
module _ (c : Case) (x : Schedule) where
  energy_worth_is : (i : ℕ) → steps_worth (offer_step (offer_steps_of (c.resource i))) (x (provided_quantity i energy)) 10 ≡ sum_of (worth_of c x) (map (priced_energy_step i) (upto energy_steps))
  unfolding offer_step_of offer part
  energy_worth_is i =
      steps_worth_is (offer_step (offer_steps_of (c.resource i))) (c.resource i).step_width (c.resource i).step_price (x (provided_quantity i energy)) 10 (offer_step_is (c.resource i))
      ∙ sym (sum-map (worth_of c x) (priced_energy_step i) (upto energy_steps))

  reserves_worth_is : (i : ℕ) → reserves_worth (reserve_offers_of (c.resource i)) (amounts_of x i) ≡ sum_of (worth_of c x) (map (priced_whole i) (reserve_services c.version))
  unfolding reserves_worth reserve_offers_of amounts_of sum_of offer part service_price
  reserves_worth_is i = go c.version
    where
      go : (version : Version) → reserves_worth (reserve_offers_of (c.resource i)) (amounts_of x i) ≡ sum_of (worth_of c x) (map (priced_whole i) (reserve_services version))
      go first = ap pos (omega arith)

  -- a resource's record and what it is given
  pub resource_worth_is : (i : ℕ) → steps_worth (offer_step (offer_steps_of (c.resource i))) (nat_abs (amounts_of x i).energy.0) 10 +ℤ reserves_worth (record_of (c.resource i)).offers (amounts_of x i) ≡ resource_worth c x i
  unfolding record_of amounts_of
  resource_worth_is i =
      sym (append_sums (worth_of c x) (map (priced_energy_step i) (upto energy_steps)) (map (priced_whole i) (reserve_services c.version)) (sym (energy_worth_is i)) (sym (reserves_worth_is i)))

  -- a curve and its cleared quantity
  pub curve_value_is : (k : Curve) → steps_worth (curve_step (curve_steps_of c k)) (x (cleared_quantity k)) 4 ≡ curve_value c x k
  unfolding curve_step_of curve_value part
  curve_value_is k = steps_worth_is (curve_step (curve_steps_of c k)) (c.curve_width k) (λ j. pos (c.curve_price k j)) (x (cleared_quantity k)) 4 (curve_step_is c k)

  -- its steps are priced at minus
  curve_taken : (k : Curve) → sum_of (worth_of c x) (curve_priced k) ≡ neg_ℤ (curve_value c x k)
  unfolding curve_value offer
  curve_taken k =
      sum-map (worth_of c x) (priced_curve_step k) (upto curve_steps)
      ∙ sum-ext (λ j. worth_of c x (priced_curve_step k j)) (λ j. neg_ℤ (pos (c.curve_price k j) *ℤ pos (part c x (priced_curve_step k j)))) (λ j. neg-*ℤ (pos (c.curve_price k j)) (pos (part c x (priced_curve_step k j)))) (upto curve_steps)
      ∙ sum-neg (λ j. pos (c.curve_price k j) *ℤ pos (part c x (priced_curve_step k j))) (upto curve_steps)

  curves_taken : sum_of (worth_of c x) (across curve_priced (curves c.version)) ≡ neg_ℤ (sum_of (curve_value c x) (curves c.version))
  curves_taken =
      sum-across (worth_of c x) curve_priced (curves c.version)
      ∙ sum-ext (λ k. sum_of (worth_of c x) (curve_priced k)) (λ k. neg_ℤ (curve_value c x k)) curve_taken (curves c.version)
      ∙ sum-neg (curve_value c x) (curves c.version)

  pub cost_is : pos 1000 *ℤ (sum_of (resource_worth c x) (upto c.resources) -ℤ sum_of (curve_value c x) (curves c.version)) ≡ cost c x
  unfolding cost priced
  cost_is =
      ap (λ (t : ℤ). pos 1000 *ℤ t)
      (sym (append_sums (worth_of c x) (across (priced_of c.version) (upto c.resources)) (across curve_priced (curves c.version)) (sum-across (worth_of c x) (priced_of c.version) (upto c.resources)) curves_taken))
