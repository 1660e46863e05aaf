-- The case as a linear programme: its rows, what is priced, and the parts of a schedule within its bounds.
use mathlib.Core.Path.{◌≡◌, refl, sym, ◌∙◌, ap, fun_ext}
use mathlib.Core.List.{◌++◌, map}
use mathlib.Core.Logic.{◌⊎◌, inl, inr}
use Prim.Native.Nat.{ℕ, ◌≤◌}
use native.Mathlib.Omega.{arith}
use lib.Dec.{le→leb}
use lib.IntN.{ℤ, pos, ◌*ℤ◌, ◌-ℤ◌}
use lib.Signed.{◌≤ℤ◌}
use Rattle.arith.specs.Sums.{Each, upto, across}
use Rattle.arith.specs.LinearProgramme.{LinearProgramme}
use Rattle.arith.specs.LinearProgramme as L
use Rattle.arith.proofs.Order.{*ℤ-assoc}
use Rattle.arith.proofs.Sums.{sum-ext, sum-scale}
use Rattle.arith.proofs.Lists.{each_imp, each-any, each_join, each_map, each-across, each_and}
use Rattle.market.specs.Case.{Case, Curve, curves, energy_steps, curve_steps}
use Rattle.market.specs.Availability.{on_line}
use Rattle.market.specs.UpperBounds.{Service, energy, reserve_services, cleared_quantity, provided_quantity, Schedule, service_bound}
use Rattle.market.specs.Rows.{Row, rows, Sense, equal, at_least, sense, coefficient, right_side, left_side, slack, Meets, Bounded, Met}
use Rattle.market.specs.Certificate.{Prices}
use Rattle.market.specs.Cost.{Priced, priced_energy_step, priced_whole, priced_curve_step, priced_of, curve_priced, priced, quantity_of, offer, priced_upper_bound, part, cost}
use Rattle.market.specs.Bound.{row_value, net_price, lowest, bound}
use Rattle.market.specs.Charges.{row_charge, priced_charge, charges}
use Rattle.market.proofs.QuantityParts.{ResourceBounded, by_kind, parts_sum}
use Rattle.market.proofs.EnergyBounds.{energy_within}
use Rattle.market.proofs.Steps.{filled_below, step_below}

abbrev pub programme : Case → LinearProgramme Row Priced
programme c =
    record {
      rows = rows c;
      columns = priced c;
      coefficient = λ r p. coefficient c r (quantity_of p);
      right_side = right_side c;
      price = λ p. pos 1000 *ℤ offer c p;
      upper_bound = λ p. pos (priced_upper_bound c p);
    }

abbrev pub parts : Case → Schedule → Priced → ℤ
parts c z p = pos (part c z p)

-- the least price that a row of this sense may have
abbrev pub PriceMay : Sense → ℤ → Type 0
PriceMay equal p = Unit {0}
PriceMay at_least p = pos 0 ≤ℤ p

abbrev pub PricesMay : Case → Prices → Type 0
PricesMay c y = Each (λ r. PriceMay (sense r) (y r)) (rows c)

-- a price's sign goes with its row's sense
row_sign : (s : Sense) (p v : ℤ) → Meets s v → PriceMay s p → ((pos 0 ≤ℤ p) × (pos 0 ≤ℤ v)) ⊎ (v ≡ pos 0)
row_sign equal p v m l = inr m
row_sign at_least p v m l = inl (l, m)

module _ (c : Case) (z : Schedule) where
  -- ---- the programme's figures are the case's
  pub slack_is : Bounded c z → (r : Row) → L.slack (programme c) (parts c z) r ≡ slack c z r
  unfolding L.slack slack left_side
  slack_is v r = ap (λ (t : ℤ). t -ℤ right_side c r) (parts_sum c z (coefficient c r) v)

  pub cost_is : L.cost (programme c) (parts c z) ≡ cost c z
  unfolding L.cost cost
  cost_is =
      sum-ext _ _ (λ p. *ℤ-assoc (pos 1000) (offer c p) (pos (part c z p))) (priced c)
      ∙ sym (sum-scale (pos 1000) (λ p. offer c p *ℤ pos (part c z p)) (priced c))

  pub charges_are : (y : Prices) → Bounded c z → L.charges (programme c) y (parts c z) ≡ charges c z y
  unfolding L.charges L.row_charge L.column_charge L.least L.net charges row_charge priced_charge lowest net_price row_value
  charges_are y v =
      ap (λ (f : Row → ℤ). map f (rows c) ++ map (priced_charge c z y) (priced c)) (fun_ext (λ r. ap (λ (t : ℤ). y r *ℤ t) (slack_is v r)))

  -- ---- a schedule within its bounds that meets the rows is feasible
  abbrev PartFits : Priced → Type 0
  PartFits = L.ColumnFits (programme c) (parts c z)

  between : {a b : ℕ} → a ≤ b → (pos 0 ≤ℤ pos a) × (pos a ≤ℤ pos b)
  between {a} {b} h = (record { le = le→leb 0 a (omega arith) }, record { le = le→leb a b h })

  whole_fits : (i : ℕ) (s : Service) → z (provided_quantity i s) ≤ service_bound c (c.resource i) s → PartFits (priced_whole i s)
  unfolding part priced_upper_bound
  whole_fits i s h = between h

  resource_fits : (i : ℕ) → ResourceBounded c z i → Each PartFits (priced_of c.version i)
  unfolding part priced_upper_bound
  resource_fits i u =
      each_join PartFits (map (priced_energy_step i) (upto energy_steps)) (map (priced_whole i) (reserve_services c.version))
      (each_map PartFits (priced_energy_step i) (upto energy_steps) (each-any (λ j. PartFits (priced_energy_step i j)) (upto energy_steps) (λ j. between (step_below (on_line (c.resource i)) (c.resource i).step_width energy_steps (z (provided_quantity i energy)) j (energy_within c (c.resource i) u.0)))))
      (each_map PartFits (priced_whole i) (reserve_services c.version) (each_imp (λ s. whole_fits i s) (reserve_services c.version) u.1))

  curve_fits : (k : Curve) → Each PartFits (curve_priced k)
  unfolding part priced_upper_bound
  curve_fits k =
      each_map PartFits (priced_curve_step k) (upto curve_steps) (each-any (λ j. PartFits (priced_curve_step k j)) (upto curve_steps) (λ j. between (filled_below (c.curve_width k) (z (cleared_quantity k)) j)))

  pub parts_fit : Bounded c z → Each PartFits (priced c)
  unfolding priced
  parts_fit v =
      each_join PartFits (across (priced_of c.version) (upto c.resources)) (across curve_priced (curves c.version))
      (each-across PartFits (priced_of c.version) (upto c.resources) (each_imp resource_fits (upto c.resources) (by_kind c z v).1))
      (each-across PartFits curve_priced (curves c.version) (each-any (λ k. Each PartFits (curve_priced k)) (curves c.version) curve_fits))

  row_fits : (y : Prices) → Bounded c z → (r : Row) → Meets (sense r) (slack c z r) × PriceMay (sense r) (y r) → L.RowFits (programme c) y (parts c z) r
  row_fits y v r h = rw (slack_is v r) (row_sign (sense r) (y r) (slack c z r) h.0 h.1)

  pub feasible : (y : Prices) → PricesMay c y → Bounded c z → Met c z → L.Feasible (programme c) y (parts c z)
  feasible y l v m = (
    each_imp (row_fits y v) (rows c) (each_and (λ r. Meets (sense r) (slack c z r)) (λ r. PriceMay (sense r) (y r)) (rows c) m l),
    parts_fit v,
  )

pub bound_is : (c : Case) (y : Prices) → L.bound (programme c) y ≡ bound c y
unfolding L.bound L.least L.net bound lowest net_price row_value
bound_is c y = refl
