-- Version 1 is document 01's, by computation.
use mathlib.Core.Path.{◌≡◌, refl, ap}
use mathlib.Core.List.{◌∷◌, ◌++◌, map}
use Rattle.arith.specs.Sums.{upto, across}
use Rattle.market.specs.Version.{Version, first, version_of}
use Rattle.market.specs.Case.{Case, curves}
use Rattle.market.specs.UpperBounds.{services, cleared_quantity, provided_quantity, quantities}
use Rattle.market.specs.Rows.{balance_row, market_row, limit_row, limits, zone_rows, flowgate_rows, rows}
use Rattle.market.specs.Cost.{priced_of, curve_priced, priced}
use Rattle.market.specs.Numbers.{case_fields, certificate_fields}
use Rattle.market.specs.FirstVersion.{FirstLists, FirstVersion}

first_lists : (c : Case) → c.version ≡ first → FirstLists c
unfolding rows quantities priced
first_lists c e =
    record {
      rows_are =
          ap (λ (version : Version). balance_row ∷ (map market_row (curves version) ++ (zone_rows c ++ (flowgate_rows c ++ across (λ i. map (limit_row i) (limits version)) (upto c.resources))))) e;
      quantities_are = ap (λ (version : Version). map cleared_quantity (curves version) ++ across (λ i. map (provided_quantity i) (services version)) (upto c.resources)) e;
      priced_are = ap (λ (version : Version). across (priced_of version) (upto c.resources) ++ across curve_priced (curves version)) e;
    }

pub first_version : FirstVersion
unfolding version_of case_fields certificate_fields
first_version =
    record {
      version_is = refl;
      curves_are = refl;
      services_are = refl;
      limits_are = refl;
      lists_are = first_lists;
      case_fields = λ r z f. refl;
      certificate_fields = λ r z f. refl;
    }
