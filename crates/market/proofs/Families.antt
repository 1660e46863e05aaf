-- The rows, quantities and priced quantities of a case by their families: which ones it has, and what holds of each of them.
use mathlib.Core.List.{List, [], ◌∷◌, ◌++◌, map}
use Prim.Native.Nat.{ℕ, ◌<◌}
use lib.Dec.{T}
use Rattle.arith.specs.Sums.{Each, upto, across, when}
use Rattle.arith.proofs.Lists.{each_imp, each_join, each_split, each_map, each_of_map, each-across, each_of_across, each-upto, at_upto}
use Rattle.arith.proofs.Kept.{each-when}
use Rattle.market.specs.Version.{Version, ramping, storing}
use Rattle.market.specs.Case.{Case, Curve, zoned_curves, zoned, curves, has_curve, Reserve, regulating_reserve, contingency_reserve, short_term_reserve, reserves, energy_steps, curve_steps}
use Rattle.market.specs.UpperBounds.{Service, energy, regulation, contingency, on_line_short_term, off_line_short_term, ramping_up, ramping_down, charging, reserve_services, services, has_service, Quantity, cleared_quantity, provided_quantity, quantities}
use Rattle.market.specs.Rows.{Row, balance_row, market_row, zone_row, flowgate_row, limit_row, limits, has_limit, market_rows, zone_rows, flowgate_rows, limit_rows, rows}
use Rattle.market.specs.Cost.{Priced, priced_energy_step, priced_whole, priced_curve_step, priced_of, curve_priced, priced, quantity_of}
use Rattle.market.proofs.Versions.{each_zoned, at_zoned, each_curve, at_curve, each_service, at_service, each_limit, at_limit}

-- ---- the reserves
pub at_reserve : (P : Reserve → Type 0) → Each P reserves → (p : Reserve) → P p
at_reserve P h regulating_reserve = h.0
at_reserve P h contingency_reserve = h.1.0
at_reserve P h short_term_reserve = h.1.1.0

-- ---- what a case has
abbrev pub RowOf : Case → Row → Type 0
RowOf c balance_row = Unit {0}
RowOf c (market_row k) = T (has_curve c.version k)
RowOf c (zone_row z k) = (z < c.zones) × T (zoned k)
RowOf c (flowgate_row f) = f < c.flowgates
RowOf c (limit_row i l) = (i < c.resources) × T (has_limit c.version l)

abbrev pub QuantityOf : Case → Quantity → Type 0
QuantityOf c (cleared_quantity k) = T (has_curve c.version k)
QuantityOf c (provided_quantity i s) = (i < c.resources) × T (has_service c.version s)

-- energy is priced by its steps
abbrev pub PricedWhole : Service → Type 0
PricedWhole energy = ⊥
PricedWhole regulation = Unit {0}
PricedWhole contingency = Unit {0}
PricedWhole on_line_short_term = Unit {0}
PricedWhole off_line_short_term = Unit {0}
PricedWhole ramping_up = Unit {0}
PricedWhole ramping_down = Unit {0}
PricedWhole charging = Unit {0}

abbrev pub PricedOf : Case → Priced → Type 0
PricedOf c (priced_energy_step i j) = (i < c.resources) × (j < energy_steps)
PricedOf c (priced_whole i s) = (i < c.resources) × (T (has_service c.version s) × PricedWhole s)
PricedOf c (priced_curve_step k j) = (j < curve_steps) × T (has_curve c.version k)

module _ (c : Case) where
  abbrev version : Version
  version = c.version

  -- those that are priced whole
  reserves_whole : Each (λ s. T (has_service version s) × PricedWhole s) (reserve_services version)
  reserves_whole =
      let P : Service → Type 0 = λ s. T (has_service version s) × PricedWhole s in
      let ramps : Each P (when (ramping version) (ramping_up ∷ ramping_down ∷ [])) = each-when P (ramping version) (ramping_up ∷ ramping_down ∷ []) (λ m. ((m, tt), ((m, tt), tt))) in
      let stores : Each P (when (storing version) (charging ∷ [])) = each-when P (storing version) (charging ∷ []) (λ m. ((m, tt), tt)) in
      ((tt, tt), ((tt, tt), ((tt, tt), ((tt, tt), each_join P (when (ramping version) (ramping_up ∷ ramping_down ∷ [])) (when (storing version) (charging ∷ [])) ramps stores))))

  abbrev pub provided : List Quantity
  provided = across (λ i. map (provided_quantity i) (services version)) (upto c.resources)

  -- a priced quantity's quantity
  pub quantity_of_lem : (p : Priced) → PricedOf c p → QuantityOf c (quantity_of p)
  unfolding quantity_of
  quantity_of_lem (priced_energy_step i j) h = (h.0, tt)
  quantity_of_lem (priced_whole i s) h = (h.0, h.1.0)
  quantity_of_lem (priced_curve_step k j) h = h.1

  -- ---- what holds of each
  module _ (P : Row → Type 0) where
    pub each_row : ((r : Row) → RowOf c r → P r) → Each P (rows c)
    unfolding rows
    each_row h = (
      h balance_row tt,
      each_join P (market_rows c) (zone_rows c ++ (flowgate_rows c ++ limit_rows c))
          (each_map P market_row (curves version) (each_curve version _ (λ k m. h (market_row k) m)))
          (each_join P (zone_rows c) (flowgate_rows c ++ limit_rows c)
          (each-across P (λ z. map (zone_row z) zoned_curves) (upto c.zones) (each-upto _ c.zones (λ z l. each_map P (zone_row z) zoned_curves (each_zoned _ (λ k m. h (zone_row z k) (l, m))))))
          (each_join P (flowgate_rows c) (limit_rows c)
          (each_map P flowgate_row (upto c.flowgates) (each-upto _ c.flowgates (λ f l. h (flowgate_row f) l)))
          (each-across P (λ i. map (limit_row i) (limits version)) (upto c.resources) (each-upto _ c.resources (λ i l. each_map P (limit_row i) (limits version) (each_limit version _ (λ k m. h (limit_row i k) (l, m)))))))),
    )

    module _ (h : Each P (rows c)) where
      -- past row 1, past the market rows, past the zones' rows
      at_market : Each P (market_rows c) × Each P (zone_rows c ++ (flowgate_rows c ++ limit_rows c))
      unfolding rows
      at_market = each_split P (market_rows c) (zone_rows c ++ (flowgate_rows c ++ limit_rows c)) h.1

      at_zone : Each P (zone_rows c) × Each P (flowgate_rows c ++ limit_rows c)
      at_zone = each_split P (zone_rows c) (flowgate_rows c ++ limit_rows c) at_market.1

      at_flowgate : Each P (flowgate_rows c) × Each P (limit_rows c)
      at_flowgate = each_split P (flowgate_rows c) (limit_rows c) at_zone.1

      of_zone : (z : ℕ) → z < c.zones → Each P (map (zone_row z) zoned_curves)
      of_zone = at_upto _ c.zones (each_of_across P (λ z. map (zone_row z) zoned_curves) (upto c.zones) at_zone.0)

      of_limits : (i : ℕ) → i < c.resources → Each P (map (limit_row i) (limits version))
      of_limits = at_upto _ c.resources (each_of_across P (λ i. map (limit_row i) (limits version)) (upto c.resources) at_flowgate.1)

      pub at_row : (r : Row) → RowOf c r → P r
      unfolding rows
      at_row balance_row l = h.0
      at_row (market_row k) l = at_curve version (λ k. P (market_row k)) (each_of_map P market_row (curves version) at_market.0) k l
      at_row (zone_row z k) l = at_zoned (λ k. P (zone_row z k)) (each_of_map P (zone_row z) zoned_curves (of_zone z l.0)) k l.1
      at_row (flowgate_row f) l = at_upto _ c.flowgates (each_of_map P flowgate_row (upto c.flowgates) at_flowgate.0) f l
      at_row (limit_row i m) l = at_limit version (λ m. P (limit_row i m)) (each_of_map P (limit_row i) (limits version) (of_limits i l.0)) m l.1

  module _ (P : Quantity → Type 0) where
    pub each_quantity : ((q : Quantity) → QuantityOf c q → P q) → Each P (quantities c)
    unfolding quantities
    each_quantity h =
        each_join P (map cleared_quantity (curves version)) provided
        (each_map P cleared_quantity (curves version) (each_curve version _ (λ k m. h (cleared_quantity k) m)))
        (each-across P (λ i. map (provided_quantity i) (services version)) (upto c.resources) (each-upto _ c.resources (λ i l. each_map P (provided_quantity i) (services version) (each_service version _ (λ s m. h (provided_quantity i s) (l, m))))))

    of_provided : Each P provided → (i : ℕ) → i < c.resources → Each P (map (provided_quantity i) (services version))
    of_provided h = at_upto _ c.resources (each_of_across P (λ i. map (provided_quantity i) (services version)) (upto c.resources) h)

    pub at_quantity : Each P (quantities c) → (q : Quantity) → QuantityOf c q → P q
    unfolding quantities
    at_quantity h (cleared_quantity k) l = at_curve version (λ k. P (cleared_quantity k)) (each_of_map P cleared_quantity (curves version) (each_split P (map cleared_quantity (curves version)) provided h).0) k l
    at_quantity h (provided_quantity i s) l =
        at_service version (λ s. P (provided_quantity i s)) (each_of_map P (provided_quantity i) (services version) (of_provided (each_split P (map cleared_quantity (curves version)) provided h).1 i l.0)) s l.1

  module _ (P : Priced → Type 0) (h : (p : Priced) → PricedOf c p → P p) where
    of_resource : (i : ℕ) → i < c.resources → Each P (priced_of version i)
    of_resource i l =
        each_join P (map (priced_energy_step i) (upto energy_steps)) (map (priced_whole i) (reserve_services version))
        (each_map P (priced_energy_step i) (upto energy_steps) (each-upto _ energy_steps (λ j m. h (priced_energy_step i j) (l, m))))
        (each_map P (priced_whole i) (reserve_services version) (each_imp (λ s w. h (priced_whole i s) (l, w)) (reserve_services version) reserves_whole))

    of_curve : (k : Curve) → T (has_curve version k) → Each P (curve_priced k)
    of_curve k l = each_map P (priced_curve_step k) (upto curve_steps) (each-upto _ curve_steps (λ j m. h (priced_curve_step k j) (m, l)))

    pub each_priced : Each P (priced c)
    unfolding priced
    each_priced =
        each_join P (across (priced_of version) (upto c.resources)) (across curve_priced (curves version))
        (each-across P (priced_of version) (upto c.resources) (each-upto _ c.resources of_resource))
        (each-across P curve_priced (curves version) (each_curve version _ of_curve))
