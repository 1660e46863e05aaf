-- How many rows, priced quantities, charges and prices a case has.
use mathlib.Core.Path.{◌≡◌, refl, ◌∙◌}
use mathlib.Core.List.{◌++◌, map}
use native.Mathlib.Omega.{arith}
use Prim.Native.Nat.{ℕ}
use lib.ListN.{length, length-append, length-map}
use Rattle.arith.specs.Sums.{upto, across}
use Rattle.arith.proofs.Lists.{length-across, length-upto}
use Rattle.market.specs.Version.{Version}
use Rattle.market.specs.Case.{Case, Curve, zoned_curves, curves, energy_steps, curve_steps}
use Rattle.market.specs.UpperBounds.{Schedule, reserve_services}
use Rattle.market.specs.Rows.{rows, row_count, market_row, zone_row, flowgate_row, limit_row, limits, market_rows, zone_rows, flowgate_rows, limit_rows}
use Rattle.market.specs.Certificate.{Prices}
use Rattle.market.specs.Cost.{priced, priced_of, resource_priced_count, priced_count, curve_priced, priced_energy_step, priced_whole, priced_curve_step}
use Rattle.market.specs.Charges.{row_charge, priced_charge, charges, charge_count}
use Rattle.market.specs.Prices.{lmp_of, zone_price_count, zone_prices, price_list, price_count}

pub row_count_lem : (c : Case) → length (rows c) ≡ row_count c
unfolding rows
row_count_lem c =
    omega (
      arith,
      length-append (market_rows c) (zone_rows c ++ (flowgate_rows c ++ limit_rows c)),
      length-append (zone_rows c) (flowgate_rows c ++ limit_rows c),
      length-append (flowgate_rows c) (limit_rows c),
      length-map (curves c.version) market_row,
      length-across (λ z. map (zone_row z) zoned_curves) (length zoned_curves) (λ z. length-map zoned_curves (zone_row z)) (upto c.zones),
      length-upto c.zones,
      length-map (upto c.flowgates) flowgate_row,
      length-upto c.flowgates,
      length-across (λ i. map (limit_row i) (limits c.version)) (length (limits c.version)) (λ i. length-map (limits c.version) (limit_row i)) (upto c.resources),
      length-upto c.resources,
    )

pub resource_priced : (version : Version) (i : ℕ) → length (priced_of version i) ≡ resource_priced_count version
resource_priced version i =
    length-append (map (priced_energy_step i) (upto energy_steps)) (map (priced_whole i) (reserve_services version))
    ∙ rw (length-map (upto energy_steps) (priced_energy_step i), length-upto energy_steps, length-map (reserve_services version) (priced_whole i))

pub priced_count_lem : (c : Case) → length (priced c) ≡ priced_count c
unfolding priced
priced_count_lem c =
    let version = c.version in
    length-append (across (priced_of version) (upto c.resources)) (across curve_priced (curves version))
    ∙ rw (length-across (priced_of version) (resource_priced_count version) (resource_priced version) (upto c.resources), length-upto c.resources, length-across curve_priced curve_steps curve_priced_lem (curves version))
  where
    curve_priced_lem : (k : Curve) → length (curve_priced k) ≡ curve_steps
    curve_priced_lem k = omega (arith, length-map (upto curve_steps) (priced_curve_step k), length-upto curve_steps)

pub charge_count_lem : (c : Case) (x : Schedule) (y : Prices) → length (charges c x y) ≡ charge_count c
unfolding charges
charge_count_lem c x y =
    omega (
      arith,
      length-append (map (row_charge c x y) (rows c)) (map (priced_charge c x y) (priced c)),
      length-map (rows c) (row_charge c x y),
      length-map (priced c) (priced_charge c x y),
      row_count_lem c,
      priced_count_lem c,
    )

pub price_count_lem : (c : Case) (y : Prices) → length (price_list c y) ≡ price_count c
unfolding price_list
price_count_lem c y =
    omega (
      arith,
      length-append (map (lmp_of c y) (upto c.resources)) (across (zone_prices y) (upto c.zones)),
      length-map (upto c.resources) (lmp_of c y),
      length-upto c.resources,
      length-across (zone_prices y) zone_price_count (λ z. refl) (upto c.zones),
      length-upto c.zones,
    )
