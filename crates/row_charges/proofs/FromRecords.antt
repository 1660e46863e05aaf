-- What the records of a case, a schedule and prices make is the charges of the rows, family by family.
use mathlib.Core.Path.{◌≡◌, sym, ap}
use lib.Dec.{T}
use mathlib.Core.List.{[], ◌∷◌, map}
use Prim.Native.Nat.{ℕ, ◌<◌}
use lib.IntN.{ℤ, pos, ◌-ℤ◌, ◌*ℤ◌}
use Rattle.arith.specs.Sums.{sum_of, upto}
use Rattle.market.specs.Case.{Case, has_curve, zoned, zoned_curves}
use Rattle.market.specs.declared.Curve.{Curve}
use Rattle.market.specs.declared.Curve.TheVariants.{Operating as operating, RegulatingPlusSpinning as regulating_plus_spinning, Regulating as regulating, ShortTerm as short_term}
use Rattle.market.specs.UpperBounds.{energy, cleared_quantity, Schedule}
use Rattle.market.specs.Rows.{Row, balance_row, market_row, zone_row, flowgate_row, limit_row, max_with_reserve, max_with_short_term, minimum, high, low, limits, slack}
use Rattle.market.specs.Certificate.{Prices}
use Rattle.market.specs.Charges.{row_charge}
use Rattle.market.specs.InWords.{RowsInWords, kw_of, reserve_of, reserve_in_zone}
use Rattle.market.specs.Records.{amounts_of, limit_prices_of, cleared_of, curve_amounts_of, reserve_prices_of}
use Rattle.market.proofs.RowSlacks.{rows_in_words}
use Rattle.market.proofs.Versions.{zoned_is_curve}
use Rattle.limits.specs.Together.{limits_of}
use Rattle.row_charges.specs.Families.{four_charges, five_charges}

module _ (c : Case) (x : Schedule) (y : Prices) where
  words : RowsInWords c x
  words = rows_in_words c x

  charge_by : (r : Row) {v : ℤ} → slack c x r ≡ v → y r *ℤ v ≡ row_charge c x y r
  unfolding row_charge
  charge_by r e = ap (λ (t : ℤ). y r *ℤ t) (sym e)

  pub balance_charge : (n : ℕ) → n ≡ c.resources → y balance_row *ℤ (sum_of (λ i. kw_of x i energy) (upto n) -ℤ pos c.demand) ≡ row_charge c x y balance_row
  balance_charge n e = rw e (charge_by balance_row words.balance)

  pub flowgate_charge : (n g : ℕ) → n ≡ c.resources →
      y (flowgate_row g) *ℤ (pos 1000 *ℤ c.flowgate_limit g -ℤ sum_of (λ i. c.shift_factor g i *ℤ kw_of x i energy) (upto n)) ≡ row_charge c x y (flowgate_row g)
  flowgate_charge n g e = rw e (charge_by (flowgate_row g) (words.flowgate g))

  -- four rows that have more than they need by their slacks
  four_charges_lem : (row : Curve → Row) (have need : Curve → ℤ) → ((k : Curve) → T (zoned k) → slack c x (row k) ≡ have k -ℤ need k) →
      four_charges (reserve_prices_of y row) (curve_amounts_of have) (curve_amounts_of need) ≡ map (row_charge c x y) (map row zoned_curves)
  unfolding reserve_prices_of
  four_charges_lem row have need e =
      λ j.
      charge_by (row operating) (e operating tt) j
      ∷ charge_by (row regulating_plus_spinning) (e regulating_plus_spinning tt) j
      ∷ charge_by (row regulating) (e regulating tt) j
      ∷ charge_by (row short_term) (e short_term tt) j
      ∷ []

  pub market_charges : (n : ℕ) → n ≡ c.resources → four_charges (reserve_prices_of y market_row) (curve_amounts_of (λ k. sum_of (reserve_of c x k) (upto n))) (cleared_of x) ≡ map (row_charge c x y) (map market_row zoned_curves)
  unfolding cleared_of
  market_charges n e = rw e (four_charges_lem market_row (λ k. sum_of (reserve_of c x k) (upto c.resources)) (λ k. pos (x (cleared_quantity k))) (λ k t. words.market k (zoned_is_curve c.version k t)))

  -- of one that the case has
  pub curve_charge : (k : Curve) → T (has_curve c.version k) → (n : ℕ) → n ≡ c.resources → y (market_row k) *ℤ (sum_of (reserve_of c x k) (upto n) -ℤ pos (x (cleared_quantity k))) ≡ row_charge c x y (market_row k)
  curve_charge k t n e = rw e (charge_by (market_row k) (words.market k t))

  pub zone_charges : (n z : ℕ) → n ≡ c.resources →
      four_charges (reserve_prices_of y (zone_row z)) (curve_amounts_of (λ k. sum_of (reserve_in_zone c x z k) (upto n))) (curve_amounts_of (λ k. pos (c.zone_requirement z k))) ≡ map (row_charge c x y) (map (zone_row z) zoned_curves)
  zone_charges n z e = rw e (four_charges_lem (zone_row z) (λ k. sum_of (reserve_in_zone c x z k) (upto c.resources)) (λ k. pos (c.zone_requirement z k)) (λ k t. words.zone z k))

  pub limit_charges : (i : ℕ) → i < c.resources → five_charges (limit_prices_of y i) (amounts_of x i) (limits_of (c.resource i)) ≡ map (row_charge c x y) (map (limit_row i) (limits c.version))
  unfolding limit_prices_of amounts_of limits_of
  limit_charges i n =
      λ j.
      charge_by (limit_row i max_with_reserve) (words.below_max i n) j
      ∷ charge_by (limit_row i max_with_short_term) (words.below_max_short_term i n) j
      ∷ charge_by (limit_row i minimum) (words.above_min i n) j
      ∷ charge_by (limit_row i high) (words.below_high i n) j
      ∷ charge_by (limit_row i low) (words.above_low i n) j
      ∷ []
