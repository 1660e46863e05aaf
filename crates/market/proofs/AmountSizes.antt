-- How large amounts and widths are; and a sum over what is priced, by the quantities.
use mathlib.Core.Path.{◌≡◌, refl}
use mathlib.Core.List.{List, map}
use Prim.Native.Nat.{ℕ, zero, suc, ◌*◌, ◌<◌, ◌≤◌}
use native.Mathlib.Nat.{mul-le-mul_left}
use native.Mathlib.Omega.{arith}
use Rattle.arith.specs.Sums.{total_of, upto, across}
use Rattle.arith.proofs.Lists.{each-upto}
use Rattle.arith.proofs.NaturalSums.{total-suc, total-append, total-map, total-across, total_mono, total-mono-all, total-scale, total_most}
use lib.Dec.{T}
use Rattle.market.specs.Version.{Version}
use Rattle.market.specs.Case.{Case, Curve, curves, has_curve, width_of, energy_steps, curve_steps}
use Rattle.market.specs.Availability.{on_line}
use Rattle.market.specs.UpperBounds.{energy, reserve_services, services, Quantity, cleared_quantity, provided_quantity, quantities, Schedule, service_bound, upper_bound}
use Rattle.market.specs.Rows.{Bounded}
use Rattle.market.specs.Cost.{Priced, priced_energy_step, priced_whole, priced_curve_step, priced_of, curve_priced, priced, quantity_of, priced_upper_bound, filled, part}
use Rattle.market.proofs.Versions.{each_curve}
use Rattle.market.proofs.Families.{QuantityOf, PricedOf, at_quantity, each_priced}
use Rattle.market.specs.Sizes.{most_power, most_curve_width, most_amount}
use Rattle.market.proofs.Ranges.{CaseRanges}
use Rattle.market.proofs.LimitSizes.{most_if, service_most}

pub widths_total : (w : ℕ → ℕ) (n : ℕ) → width_of w n ≡ total_of w (upto n)
unfolding width_of upto total_of
widths_total w zero = refl
widths_total w (suc n) = omega (arith, widths_total w n, total-suc w n)

-- the most that a priced quantity can have: an energy step's width, also where its resource is not on-line
unfoldable pub capacity : Case → Priced → ℕ
capacity c (priced_energy_step i j) = (c.resource i).step_width j
capacity c (priced_whole i s) = service_bound c (c.resource i) s
capacity c (priced_curve_step k j) = c.curve_width k j

pub width_most : (c : Case) (p : Priced) → priced_upper_bound c p ≤ capacity c p
unfolding priced_upper_bound capacity
width_most c (priced_energy_step i j) = most_if (on_line (c.resource i)) (omega arith) (omega arith)
width_most c (priced_whole i s) = omega arith
width_most c (priced_curve_step k j) = omega arith

pub part_most : (c : Case) (x : Schedule) → Bounded c x → (p : Priced) → PricedOf c p → part c x p ≤ capacity c p
unfolding part filled capacity upper_bound
part_most c x b (priced_energy_step i j) h = omega arith
part_most c x b (priced_whole i s) h = at_quantity c (λ q. x q ≤ upper_bound c q) b (provided_quantity i s) (h.0, h.1.0)
part_most c x b (priced_curve_step k j) h = omega arith

module _ (c : Case) (h : CaseRanges c) where
  abbrev version : Version
  version = c.version

  pub energy_widths : (i : ℕ) → i < c.resources → total_of (c.resource i).step_width (upto energy_steps) ≤ most_power
  energy_widths i m = omega (arith, widths_total (c.resource i).step_width energy_steps, (h.resource i m).widths_to)

  pub curve_widths : (k : Curve) → T (has_curve c.version k) → total_of (c.curve_width k) (upto curve_steps) ≤ most_amount (cleared_quantity k)
  curve_widths k m = total_most (c.curve_width k) most_curve_width curve_steps (h.curve_width k m)

  pub amount_most : (q : Quantity) → QuantityOf c q → upper_bound c q ≤ most_amount q
  unfolding upper_bound
  amount_most (cleared_quantity k) m = omega (arith, widths_total (c.curve_width k) curve_steps, curve_widths k m)
  amount_most (provided_quantity i s) m = service_most (h.resource i m.0) c s

  pub capacity_most : (p : Priced) → PricedOf c p → capacity c p ≤ most_amount (quantity_of p)
  unfolding capacity quantity_of
  capacity_most (priced_energy_step i j) m = (h.resource i m.0).step_width j m.1
  capacity_most (priced_whole i s) m = service_most (h.resource i m.0) c s
  capacity_most (priced_curve_step k j) m = omega (arith, h.curve_width k m.1 j m.0)

  -- ---- a sum over what is priced, of terms at a rate for each kW that turns on the quantity alone: a quantity's steps
  -- together are no more than the quantity's most
  module _ (rate : Quantity → ℕ) where
    abbrev rated : Priced → ℕ
    rated p = rate (quantity_of p) * capacity c p

    abbrev whole : Quantity → ℕ
    whole q = rate q * most_amount q

    steps_rated : (i : ℕ) → i < c.resources → total_of rated (map (priced_energy_step i) (upto energy_steps)) ≤ whole (provided_quantity i energy)
    unfolding capacity quantity_of
    steps_rated i m =
        omega (
          arith,
          total-map rated (priced_energy_step i) (upto energy_steps),
          total-scale (rate (provided_quantity i energy)) (c.resource i).step_width (upto energy_steps),
          mul-le-mul_left (rate (provided_quantity i energy)) (energy_widths i m),
        )

    wholes_rated : (i : ℕ) → i < c.resources → total_of rated (map (priced_whole i) (reserve_services version)) ≤ total_of whole (map (provided_quantity i) (reserve_services version))
    unfolding capacity quantity_of
    wholes_rated i m =
        rw (total-map rated (priced_whole i) (reserve_services version), total-map whole (provided_quantity i) (reserve_services version))
        (total-mono-all (λ s. rated (priced_whole i s)) (λ s. whole (provided_quantity i s)) (λ s. mul-le-mul_left (rate (provided_quantity i s)) (service_most (h.resource i m) c s)) (reserve_services version))

    resource_rated : (i : ℕ) → i < c.resources → total_of rated (priced_of version i) ≤ total_of whole (map (provided_quantity i) (services version))
    unfolding total_of
    resource_rated i m = omega (arith, total-append rated (map (priced_energy_step i) (upto energy_steps)) (map (priced_whole i) (reserve_services version)), steps_rated i m, wholes_rated i m)

    curve_rated : (k : Curve) → T (has_curve version k) → total_of rated (curve_priced k) ≤ whole (cleared_quantity k)
    unfolding capacity quantity_of
    curve_rated k m =
        omega (
          arith,
          total-map rated (priced_curve_step k) (upto curve_steps),
          total-scale (rate (cleared_quantity k)) (c.curve_width k) (upto curve_steps),
          mul-le-mul_left (rate (cleared_quantity k)) (curve_widths k m),
        )

    abbrev provided_by : ℕ → List Quantity
    provided_by i = map (provided_quantity i) (services version)

    resources_rated : total_of rated (across (priced_of version) (upto c.resources)) ≤ total_of whole (across provided_by (upto c.resources))
    resources_rated =
        rw (total-across rated (priced_of version) (upto c.resources), total-across whole provided_by (upto c.resources))
        (total_mono (λ i. total_of rated (priced_of version i)) (λ i. total_of whole (provided_by i)) (upto c.resources) (each-upto _ c.resources resource_rated))

    curves_rated : total_of rated (across curve_priced (curves version)) ≤ total_of whole (map cleared_quantity (curves version))
    curves_rated =
        rw (total-across rated curve_priced (curves version), total-map whole cleared_quantity (curves version))
        (total_mono (λ k. total_of rated (curve_priced k)) (λ k. whole (cleared_quantity k)) (curves version) (each_curve version _ curve_rated))

    pub priced_most : (f : Priced → ℕ) → ((p : Priced) → PricedOf c p → f p ≤ rate (quantity_of p) * capacity c p) → total_of f (priced c) ≤ total_of (λ q. rate q * most_amount q) (quantities c)
    unfolding priced quantities
    priced_most f m =
        omega (
          arith,
          total_mono f rated (priced c) (each_priced c (λ p. f p ≤ rated p) m),
          total-append rated (across (priced_of version) (upto c.resources)) (across curve_priced (curves version)),
          total-append whole (map cleared_quantity (curves version)) (across provided_by (upto c.resources)),
          resources_rated,
          curves_rated,
        )
