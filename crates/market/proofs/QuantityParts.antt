-- The parts of a quantity within its bound, step by step, add up to it.
use mathlib.Core.Path.{◌≡◌, sym, ◌∙◌}
use mathlib.Core.List.{map}
use Prim.Native.Nat.{ℕ, ◌≤◌}
use lib.IntN.{ℤ, pos, ◌*ℤ◌, +ℤ_comm}
use Rattle.arith.specs.Sums.{sum_of, Each, upto, across}
use Rattle.arith.proofs.Sums.{sum-append, append_sums, sum-map, sum-across, sum-each-ext}
use Rattle.arith.proofs.Lists.{each_imp, each_split, each_of_map, each_of_across}
use Rattle.market.specs.Case.{Case, Curve, curves, width_of, energy_steps, curve_steps}
use Rattle.market.specs.Availability.{on_line}
use Rattle.market.specs.UpperBounds.{energy, reserve_services, services, Quantity, cleared_quantity, provided_quantity, quantities, Schedule, service_bound, upper_bound}
use Rattle.market.specs.Rows.{Bounded}
use Rattle.market.specs.Cost.{Priced, priced_energy_step, priced_whole, priced_curve_step, priced_of, curve_priced, priced, quantity_of, part}
use Rattle.market.proofs.EnergyBounds.{energy_within}
use Rattle.market.proofs.Steps.{filled_sum, energy_below}

module _ (c : Case) (z : Schedule) where
  -- the bounds, by curves and by resources
  abbrev pub CurveBounded : Curve → Type 0
  CurveBounded k = z (cleared_quantity k) ≤ width_of (c.curve_width k) curve_steps

  abbrev pub ResourceBounded : ℕ → Type 0
  ResourceBounded i = Each (λ s. z (provided_quantity i s) ≤ service_bound c (c.resource i) s) (services c.version)

  pub by_kind : Bounded c z → Each CurveBounded (curves c.version) × Each ResourceBounded (upto c.resources)
  unfolding quantities upper_bound
  by_kind h =
      let within : Quantity → Type 0 = λ q. z q ≤ upper_bound c q in
      let r = each_split within (map cleared_quantity (curves c.version)) (across (λ i. map (provided_quantity i) (services c.version)) (upto c.resources)) h in (
        each_of_map within cleared_quantity (curves c.version) r.0,
        each_imp (λ i. each_of_map within (provided_quantity i) (services c.version)) (upto c.resources) (each_of_across within (λ i. map (provided_quantity i) (services c.version)) (upto c.resources) r.1),
      )

  -- ---- the parts of each quantity add up to it, at any weight of the quantities
  module _ (h : Quantity → ℤ) where
    by_part : Priced → ℤ
    by_part p = h (quantity_of p) *ℤ pos (part c z p)

    by_quantity : Quantity → ℤ
    by_quantity q = h q *ℤ pos (z q)

    resource_parts : (i : ℕ) → ResourceBounded i → sum_of by_part (priced_of c.version i) ≡ sum_of by_quantity (map (provided_quantity i) (services c.version))
    unfolding by_part by_quantity sum_of quantity_of part
    resource_parts i u =
        let rest = reserve_services c.version in
        append_sums by_part (map (priced_energy_step i) (upto energy_steps)) (map (priced_whole i) rest)
        (sum-map by_part (priced_energy_step i) (upto energy_steps)
        ∙ filled_sum (h (provided_quantity i energy)) (c.resource i).step_width (z (provided_quantity i energy)) energy_steps (energy_below (on_line (c.resource i)) (width_of (c.resource i).step_width energy_steps) (z (provided_quantity i energy)) (energy_within c (c.resource i) u.0)))
        (sum-map by_part (priced_whole i) rest ∙ sym (sum-map by_quantity (provided_quantity i) rest))

    curve_parts : (k : Curve) → CurveBounded k → sum_of by_part (curve_priced k) ≡ by_quantity (cleared_quantity k)
    unfolding by_part by_quantity quantity_of part
    curve_parts k u = sum-map by_part (priced_curve_step k) (upto curve_steps) ∙ filled_sum (h (cleared_quantity k)) (c.curve_width k) (z (cleared_quantity k)) curve_steps u

    by_resource : Each ResourceBounded (upto c.resources) → sum_of by_part (across (priced_of c.version) (upto c.resources)) ≡ sum_of by_quantity (across (λ i. map (provided_quantity i) (services c.version)) (upto c.resources))
    by_resource v =
        sum-across by_part (priced_of c.version) (upto c.resources)
        ∙ sum-each-ext (λ i. sum_of by_part (priced_of c.version i)) (λ i. sum_of by_quantity (map (provided_quantity i) (services c.version))) (upto c.resources) (each_imp resource_parts (upto c.resources) v)
        ∙ sym (sum-across by_quantity (λ i. map (provided_quantity i) (services c.version)) (upto c.resources))

    by_curve : Each CurveBounded (curves c.version) → sum_of by_part (across curve_priced (curves c.version)) ≡ sum_of by_quantity (map cleared_quantity (curves c.version))
    by_curve v =
        sum-across by_part curve_priced (curves c.version)
        ∙ sum-each-ext (λ k. sum_of by_part (curve_priced k)) (λ k. by_quantity (cleared_quantity k)) (curves c.version) (each_imp curve_parts (curves c.version) v)
        ∙ sym (sum-map by_quantity cleared_quantity (curves c.version))

    pub parts_sum : Bounded c z → sum_of (λ p. h (quantity_of p) *ℤ pos (part c z p)) (priced c) ≡ sum_of (λ q. h q *ℤ pos (z q)) (quantities c)
    unfolding by_part by_quantity priced quantities
    parts_sum v =
        sum-append by_part (across (priced_of c.version) (upto c.resources)) (across curve_priced (curves c.version))
        ∙ rw (by_resource (by_kind v).1, by_curve (by_kind v).0) (+ℤ_comm (sum_of by_quantity (across (λ i. map (provided_quantity i) (services c.version)) (upto c.resources))) (sum_of by_quantity (map cleared_quantity (curves c.version))))
        ∙ sym (sum-append by_quantity (map cleared_quantity (curves c.version)) (across (λ i. map (provided_quantity i) (services c.version)) (upto c.resources)))
