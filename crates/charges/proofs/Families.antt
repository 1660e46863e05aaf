-- The charges of each family of what is priced: what the records make is the definition's list, and how long it is.
use mathlib.Core.Path.{◌≡◌, refl, sym, ap, ◌∙◌}
use mathlib.Core.List.{List, [], ◌∷◌, ◌++◌, map, map-append, map-map}
use Prim.Native.Nat.{ℕ, ◌+◌, ◌<◌}
use lib.IntN.{ℤ, pos, nat_abs, ◌+ℤ◌, ◌-ℤ◌, ◌*ℤ◌}
use lib.ListN.{length, set, drop, length-map}
use Rattle.arith.specs.Sums.{Each, upto, across}
use Rattle.arith.proofs.Lists.{each-upto, map-upto, length-upto}
use lib.Dec.{T}
use Rattle.market.proofs.Lengths.{resource_priced}
use Rattle.market.specs.declared.version.Version.{Version}
use Rattle.market.specs.declared.version.Version.TheVariants.{First as first}
use Rattle.market.specs.Case.{Case, has_curve, curves, energy_steps, curve_steps}
use Rattle.market.specs.declared.Curve.{Curve}
use Rattle.market.specs.declared.Curve.TheVariants.{Operating as operating, RegulatingPlusSpinning as regulating_plus_spinning, Regulating as regulating, ShortTerm as short_term}
use Rattle.market.specs.declared.Step.{Step}
use Rattle.market.specs.Availability.{on_line}
use Rattle.market.specs.UpperBounds.{Schedule, provided_quantity, cleared_quantity, energy, reserve_services}
use Rattle.market.specs.Rows.{market_row}
use Rattle.market.specs.Certificate.{Prices}
use Rattle.market.specs.Cost.{curve_priced_count, priced_energy_step, priced_whole, priced_curve_step, priced_of, curve_priced, priced, part, priced_upper_bound, resource_priced_count}
use Rattle.market.specs.Bound.{lowest}
use Rattle.market.specs.Charges.{priced_charge}
use Rattle.market.specs.Records.{millicents, amounts_of, offer_step_of, offer_steps_of, curve_step_of, curve_steps_of}
use Rattle.market.proofs.NetPrices.{net_prices_in_words}
use Rattle.market.proofs.Ranges.{CaseRanges, PriceRanges}
use Rattle.case_records.specs.Ranged.{offer_step, curve_step}
use Rattle.case_records.proofs.Ranged.{offer_step_is, curve_step_is}
use Rattle.net_prices.specs.NetPrices.{nets_of}
use Rattle.net_prices.proofs.Known.{step_is}
use Rattle.limits.specs.Together.{reserve_bounds_of}
use Rattle.bounds.specs.Terms.{step_least, curve_step_least}
use Rattle.bounds.proofs.PricedTerms.{step_least_is, had_step_least}
use Rattle.limits.specs.Widths.{widths_of}
use Rattle.costs.proofs.Filling.{filled_same}
use Rattle.arith.proofs.Buffers.{store_on}
use Rattle.charges.specs.Terms.{step_charge, energy_charge, reserve_charges, curve_step_charge, curve_charge}

-- ---- lists
module _ {A B : Type 0} where
  pub map_same : (f g : A → B) (xs : List A) → Each (λ x. f x ≡ g x) xs → map f xs ≡ map g xs
  map_same f g [] h = refl
  map_same f g (x ∷ xs) h = λ i. h.0 i ∷ map_same f g xs h.1 i

map-across : {A B C : Type 0} (f : B → C) (g : A → List B) (xs : List A) → map f (across g xs) ≡ across (λ x. map f (g x)) xs
unfolding across
map-across f g [] = refl
map-across f g (x ∷ xs) = map-append f (g x) (across g xs) ∙ rw (map-across f g xs)

-- the numbers that g gives: how many they are, and one more written behind the first j of them
pub numbers_count : (g : ℕ → ℤ) (n : ℕ) → length (map g (upto n)) ≡ n
numbers_count g n = length-map (upto n) g ∙ length-upto n

pub write_next : (g : ℕ → ℤ) (o out : List ℤ) (j : ℕ) → j < length o → out ≡ map g (upto j) ++ drop j o → set out j (g j) ≡ map g (upto (j + 1)) ++ drop (j + 1) o
write_next g o out j fit e = rw (map-upto g j) (store_on (map g (upto j)) o out (g j) j (numbers_count g j) fit e)

-- ---- one charge, part by part
charge_by : {net net' amount amount' least least' : ℤ} → net ≡ net' → amount ≡ amount' → least ≡ least' → net *ℤ amount -ℤ least ≡ net' *ℤ amount' -ℤ least'
charge_by e f g = λ i. e i *ℤ f i -ℤ g i

abbrev width_in : Step → ℕ
width_in t = nat_abs t.width.0

module _ (c : Case) (x : Schedule) (y : Prices) where
  -- ---- a resource
  module _ (h : CaseRanges c) (p : PriceRanges c y) (i : ℕ) (n : i < c.resources) where
    energy_charge_is : (j : ℕ) → j < energy_steps → energy_charge (nets_of c y i) (on_line (c.resource i)) (offer_steps_of (c.resource i)) (x (provided_quantity i energy)) j ≡ priced_charge c x y (priced_energy_step i j)
    unfolding step_charge step_least priced_charge part nets_of offer_step_of
    energy_charge_is j l =
        let r = c.resource i in
        charge_by
        (ap (λ (t : Step). pos 1000 *ℤ t.price.0 +ℤ (nets_of c y i).energy.0) (offer_step_is r j l) ∙ step_is c y h p i n j)
        (ap pos (filled_same (widths_of (offer_step (offer_steps_of r))) r.step_width (x (provided_quantity i energy)) energy_steps (λ k m. ap width_in (offer_step_is r k m)) j l))
        (step_least_is c y h p i n j l)

    steps_are : map (energy_charge (nets_of c y i) (on_line (c.resource i)) (offer_steps_of (c.resource i)) (x (provided_quantity i energy))) (upto energy_steps) ≡ map (priced_charge c x y) (map (priced_energy_step i) (upto energy_steps))
    steps_are = map_same _ _ (upto energy_steps) (each-upto _ energy_steps energy_charge_is) ∙ sym (map-map (priced_charge c x y) (priced_energy_step i) (upto energy_steps))

    reserves_are : reserve_charges (nets_of c y i) (amounts_of x i) (reserve_bounds_of c (c.resource i)) ≡ map (priced_charge c x y) (map (priced_whole i) (reserve_services c.version))
    unfolding reserve_charges nets_of amounts_of reserve_bounds_of priced_charge lowest priced_upper_bound part
    reserves_are = go c.version
      where
        go : (version : Version) → reserve_charges (nets_of c y i) (amounts_of x i) (reserve_bounds_of c (c.resource i)) ≡ map (priced_charge c x y) (map (priced_whole i) (reserve_services version))
        go first = refl

    pub resource_is : map (energy_charge (nets_of c y i) (on_line (c.resource i)) (offer_steps_of (c.resource i)) (x (provided_quantity i energy))) (upto energy_steps)
        ++ reserve_charges (nets_of c y i) (amounts_of x i) (reserve_bounds_of c (c.resource i))
        ≡ map (priced_charge c x y) (priced_of c.version i)
    resource_is = rw (steps_are, reserves_are) (sym (map-append (priced_charge c x y) (map (priced_energy_step i) (upto energy_steps)) (map (priced_whole i) (reserve_services c.version))))

  pub resource_count : (i : ℕ) → length (map (priced_charge c x y) (priced_of c.version i)) ≡ resource_priced_count c.version
  resource_count i = length-map (priced_of c.version i) (priced_charge c x y) ∙ resource_priced c.version i

  -- ---- the curves
  curve_charge_is : (k : Curve) → T (has_curve c.version k) → (j : ℕ) → j < curve_steps → curve_charge (millicents (y (market_row k))) (curve_steps_of c k) (x (cleared_quantity k)) j ≡ priced_charge c x y (priced_curve_step k j)
  unfolding curve_step_charge curve_step_least priced_charge part curve_step_of
  curve_charge_is k h j l =
      charge_by
      (ap (λ (t : Step). y (market_row k) -ℤ pos 1000 *ℤ t.price.0) (curve_step_is c k j l) ∙ sym ((net_prices_in_words c y).curve_step k h j))
      (ap pos (filled_same (widths_of (curve_step (curve_steps_of c k))) (c.curve_width k) (x (cleared_quantity k)) curve_steps (λ m l. ap width_in (curve_step_is c k m l)) j l))
      (had_step_least c y k h j l)

  pub curve_is : (k : Curve) → T (has_curve c.version k) → map (curve_charge (millicents (y (market_row k))) (curve_steps_of c k) (x (cleared_quantity k))) (upto curve_steps) ≡ map (priced_charge c x y) (curve_priced k)
  curve_is k h = map_same _ _ (upto curve_steps) (each-upto _ curve_steps (curve_charge_is k h)) ∙ sym (map-map (priced_charge c x y) (priced_curve_step k) (upto curve_steps))

  -- four steps each, two and two
  pub curves_are : (map (priced_charge c x y) (curve_priced operating) ++ map (priced_charge c x y) (curve_priced regulating_plus_spinning))
      ++ (map (priced_charge c x y) (curve_priced regulating) ++ map (priced_charge c x y) (curve_priced short_term))
      ≡ map (priced_charge c x y) (across curve_priced (curves c.version))
  unfolding upto across
  curves_are = by_version c.version
    where
      by_version : (version : Version) → (map (priced_charge c x y) (curve_priced operating) ++ map (priced_charge c x y) (curve_priced regulating_plus_spinning))
          ++ (map (priced_charge c x y) (curve_priced regulating) ++ map (priced_charge c x y) (curve_priced short_term))
          ≡ map (priced_charge c x y) (across curve_priced (curves version))
      by_version first = refl

  -- ---- all
  pub priced_are : across (λ i. map (priced_charge c x y) (priced_of c.version i)) (upto c.resources) ++ map (priced_charge c x y) (across curve_priced (curves c.version)) ≡ map (priced_charge c x y) (priced c)
  unfolding priced
  priced_are =
      ap (λ (l : List ℤ). l ++ map (priced_charge c x y) (across curve_priced (curves c.version))) (sym (map-across (priced_charge c x y) (priced_of c.version) (upto c.resources)))
      ∙ sym (map-append (priced_charge c x y) (across (priced_of c.version) (upto c.resources)) (across curve_priced (curves c.version)))

-- of what is priced of a resource
pub resource_priced_is : (version : Version) → resource_priced_count version ≡ 14
resource_priced_is first = refl

pub sixteen_steps : (version : Version) → curve_priced_count version ≡ 16
sixteen_steps first = refl
