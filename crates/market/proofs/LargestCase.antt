-- As many rows and quantities as a case of any version may have: a sum over them bounds one over those of a case.
use mathlib.Core.List.{List, ◌∷◌, ◌++◌, map}
use Prim.Native.Nat.{ℕ, ◌≤◌}
use native.Mathlib.Omega.{arith}
use Rattle.arith.specs.Sums.{total_of, upto, across}
use Rattle.arith.proofs.NaturalSums.{total-append, total-map, total-across, total-mono-all, total_longer_map, total_longer_across}
use Rattle.market.specs.Case.{Case, all_curves, zoned_curves, curves}
use Rattle.market.specs.CaseCheck.{most_resources, most_zones, most_flowgates, CountsWithin}
use Rattle.market.specs.UpperBounds.{all_services, services, Quantity, cleared_quantity, provided_quantity, quantities}
use Rattle.market.specs.Rows.{Row, balance_row, market_row, zone_row, flowgate_row, limit_row, all_limits, limits, market_rows, zone_rows, flowgate_rows, limit_rows, rows}
use Rattle.market.proofs.Families.{provided}
use Rattle.market.proofs.Versions.{curves_most, services_most, limits_most}

abbrev pub CountRanges : Case → Type 0
CountRanges c = CountsWithin c.resources c.zones c.flowgates

-- its rows and its quantities: all that any version has
abbrev pub most_limit_rows : List Row
most_limit_rows = across (λ i. map (limit_row i) all_limits) (upto most_resources)

abbrev pub most_flowgate_rows : List Row
most_flowgate_rows = map flowgate_row (upto most_flowgates)

abbrev pub most_zone_rows : List Row
most_zone_rows = across (λ z. map (zone_row z) zoned_curves) (upto most_zones)

abbrev pub most_rows : List Row
most_rows = balance_row ∷ (map market_row all_curves ++ (most_zone_rows ++ (most_flowgate_rows ++ most_limit_rows)))

abbrev pub most_quantities : List Quantity
most_quantities = map cleared_quantity all_curves ++ across (λ i. map (provided_quantity i) all_services) (upto most_resources)

module _ (c : Case) (n : CountRanges c) where
  -- a resource's, whatever its version
  limited_most : (f : Row → ℕ) (i : ℕ) → total_of f (map (limit_row i) (limits c.version)) ≤ total_of f (map (limit_row i) all_limits)
  limited_most f i = omega (arith, total-map f (limit_row i) (limits c.version), total-map f (limit_row i) all_limits, limits_most c.version (λ l. f (limit_row i l)))

  provided_most : (f : Quantity → ℕ) (i : ℕ) → total_of f (map (provided_quantity i) (services c.version)) ≤ total_of f (map (provided_quantity i) all_services)
  provided_most f i = omega (arith, total-map f (provided_quantity i) (services c.version), total-map f (provided_quantity i) all_services, services_most c.version (λ s. f (provided_quantity i s)))

  pub rows_most : (f : Row → ℕ) → total_of f (rows c) ≤ total_of f most_rows
  unfolding rows total_of
  rows_most f =
      omega (
        arith,
        total-append f (market_rows c) (zone_rows c ++ (flowgate_rows c ++ limit_rows c)),
        total-append f (map market_row all_curves) (most_zone_rows ++ (most_flowgate_rows ++ most_limit_rows)),
        total-append f (zone_rows c) (flowgate_rows c ++ limit_rows c),
        total-append f most_zone_rows (most_flowgate_rows ++ most_limit_rows),
        total-append f (flowgate_rows c) (limit_rows c),
        total-append f most_flowgate_rows most_limit_rows,
        total-map f market_row (curves c.version),
        total-map f market_row all_curves,
        curves_most c.version (λ k. f (market_row k)),
        total_longer_across f (λ z. map (zone_row z) zoned_curves) most_zones n.most_zones,
        total_longer_map f flowgate_row most_flowgates n.most_flowgates,
        total-across f (λ i. map (limit_row i) (limits c.version)) (upto c.resources),
        total-across f (λ i. map (limit_row i) all_limits) (upto c.resources),
        total-mono-all (λ i. total_of f (map (limit_row i) (limits c.version))) (λ i. total_of f (map (limit_row i) all_limits)) (limited_most f) (upto c.resources),
        total_longer_across f (λ i. map (limit_row i) all_limits) most_resources n.most_resources,
      )

  pub quantities_most : (f : Quantity → ℕ) → total_of f (quantities c) ≤ total_of f most_quantities
  unfolding quantities
  quantities_most f =
      omega (
        arith,
        total-append f (map cleared_quantity (curves c.version)) (provided c),
        total-append f (map cleared_quantity all_curves) (across (λ i. map (provided_quantity i) all_services) (upto most_resources)),
        total-map f cleared_quantity (curves c.version),
        total-map f cleared_quantity all_curves,
        curves_most c.version (λ k. f (cleared_quantity k)),
        total-across f (λ i. map (provided_quantity i) (services c.version)) (upto c.resources),
        total-across f (λ i. map (provided_quantity i) all_services) (upto c.resources),
        total-mono-all (λ i. total_of f (map (provided_quantity i) (services c.version))) (λ i. total_of f (map (provided_quantity i) all_services)) (provided_most f) (upto c.resources),
        total_longer_across f (λ i. map (provided_quantity i) all_services) most_resources n.most_resources,
      )
