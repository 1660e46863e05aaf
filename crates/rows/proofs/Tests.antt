-- The tests of each family say of its rows whether they are met.
use mathlib.Core.Path.{◌≡◌, sym, ◌∙◌, ap}
use lib.Dec.{T}
use mathlib.Core.Bool.{true, false, true≢false, ◌&&◌}
use mathlib.Core.List.{[], ◌∷◌, map}
use Prim.Native.Nat.{ℕ, ◌<◌}
use lib.IntN.{ℤ, pos, ◌+ℤ◌, ◌-ℤ◌, ◌*ℤ◌}
use lib.Signed.{le_z}
use Rattle.arith.specs.Sums.{sum_of, upto}
use Rattle.arith.proofs.Order.{le_z_sub, sub_le_z}
use Rattle.market.specs.Case.{Case, has_curve, zoned_curves}
use Rattle.market.specs.declared.Curve.{Curve}
use Rattle.market.specs.declared.Curve.TheVariants.{Operating as operating, RegulatingPlusSpinning as regulating_plus_spinning, Regulating as regulating, ShortTerm as short_term}
use Rattle.market.specs.Limits.{max_of, min_of, hi_of, lo_of}
use Rattle.market.specs.UpperBounds.{energy, regulation, contingency, on_line_short_term, cleared_quantity, Schedule}
use Rattle.market.specs.Rows.{balance_row, market_row, zone_row, flowgate_row, limit_row, limits, market_rows, slack}
use Rattle.market.specs.Certificate.{Certificate}
use Rattle.market.specs.InWords.{RowsInWords, kw_of, reserve_of, reserve_in_zone}
use Rattle.market.specs.Outcome.{row_met}
use Rattle.market.specs.Records.{amounts_of, cleared_of, curve_amounts_of}
use Rattle.market.proofs.RowSlacks.{rows_in_words}
use Rattle.limits.specs.Together.{limits_of}
use Rattle.units.specs.Search.{first_false, short_tests}
use Rattle.units.proofs.Search.{searched_over_all}
use Rattle.rows.specs.Tests.{limit_tests}

-- a row 'at least' whose slack is b - a
met : (a b : ℤ) {s : ℤ} → s ≡ b -ℤ a → le_z a b ≡ le_z (pos 0) s
met a b e = sym (ap (le_z (pos 0)) e ∙ le_z_sub a b)

module _ (c : Case) (k : Certificate) where
  abbrev x : Schedule
  x = k.amount

  words : RowsInWords c x
  words = rows_in_words c x

  -- ---- row 1
  abbrev produced : ℤ
  produced = sum_of (λ i. kw_of x i energy) (upto c.resources)

  no_more : le_z produced (pos c.demand) ≡ le_z (slack c x balance_row) (pos 0)
  no_more = sym (ap (λ (t : ℤ). le_z t (pos 0)) words.balance ∙ sub_le_z (pos c.demand) produced)

  pub balance_met : (n : ℕ) → n ≡ c.resources → (le_z (pos c.demand) (sum_of (λ i. kw_of x i energy) (upto n)) && le_z (sum_of (λ i. kw_of x i energy) (upto n)) (pos c.demand)) ≡ row_met c k balance_row
  balance_met n e = rw (e, met (pos c.demand) produced words.balance, no_more)

  -- ---- reserve rows
  market_met : (l : Curve) → T (has_curve c.version l) → le_z (pos (x (cleared_quantity l))) (sum_of (reserve_of c x l) (upto c.resources)) ≡ row_met c k (market_row l)
  market_met l t = met (pos (x (cleared_quantity l))) (sum_of (reserve_of c x l) (upto c.resources)) (words.market l t)

  -- of a curve that there is not, nothing is asked
  none_met : (l : Curve) → has_curve c.version l ≡ false → x (cleared_quantity l) ≡ 0 → le_z (pos (x (cleared_quantity l))) (sum_of (reserve_of c x l) (upto c.resources)) ≡ true
  none_met operating e z = absurd (true≢false e)
  none_met regulating_plus_spinning e z = absurd (true≢false e)
  none_met regulating e z = absurd (true≢false e)
  none_met short_term e z = absurd (true≢false e)

  pub market_tests : ((l : Curve) → has_curve c.version l ≡ false → x (cleared_quantity l) ≡ 0) → (n : ℕ) → n ≡ c.resources → (m : ℕ) →
      first_false m (short_tests (curve_amounts_of (λ l. sum_of (reserve_of c x l) (upto n))) (cleared_of x)) ≡ first_false m (map (row_met c k) (market_rows c))
  unfolding cleared_of
  market_tests none n e m =
      rw e (searched_over_all market_row (row_met c k) (λ l. le_z (pos (x (cleared_quantity l))) (sum_of (reserve_of c x l) (upto c.resources))) c.version market_met (λ l t. none_met l t (none l t)) m)

  zone_met : (y : ℕ) (l : Curve) → le_z (pos (c.zone_requirement y l)) (sum_of (reserve_in_zone c x y l) (upto c.resources)) ≡ row_met c k (zone_row y l)
  zone_met y l = met (pos (c.zone_requirement y l)) (sum_of (reserve_in_zone c x y l) (upto c.resources)) (words.zone y l)

  pub zone_tests : (n y : ℕ) → n ≡ c.resources → short_tests (curve_amounts_of (λ l. sum_of (reserve_in_zone c x y l) (upto n))) (curve_amounts_of (λ l. pos (c.zone_requirement y l))) ≡ map (row_met c k) (map (zone_row y) zoned_curves)
  zone_tests n y e = rw e (λ j. zone_met y operating j ∷ zone_met y regulating_plus_spinning j ∷ zone_met y regulating j ∷ zone_met y short_term j ∷ [])

  -- ---- flowgates
  pub flowgate_met : (n g : ℕ) → n ≡ c.resources → le_z (sum_of (λ i. c.shift_factor g i *ℤ kw_of x i energy) (upto n)) (pos 1000 *ℤ c.flowgate_limit g) ≡ row_met c k (flowgate_row g)
  flowgate_met n g e = rw e (met (sum_of (λ i. c.shift_factor g i *ℤ kw_of x i energy) (upto c.resources)) (pos 1000 *ℤ c.flowgate_limit g) (words.flowgate g))

  -- ---- a resource's own
  pub limit_tests_lem : (i : ℕ) → i < c.resources → limit_tests (amounts_of x i) (limits_of (c.resource i)) ≡ map (row_met c k) (map (limit_row i) (limits c.version))
  unfolding amounts_of limits_of
  limit_tests_lem i h =
      let e = kw_of x i energy in
      let g = kw_of x i regulation in
      let most = pos (max_of (c.resource i)) in
      let reserve = met (e +ℤ g +ℤ kw_of x i contingency) most (words.below_max i h) in
      let short_term = met (e +ℤ kw_of x i on_line_short_term) most (words.below_max_short_term i h) in
      let least = met (min_of (c.resource i)) (e -ℤ g) (words.above_min i h) in
      let high = met e (hi_of (c.resource i)) (words.below_high i h) in
      let low = met (lo_of (c.resource i)) e (words.above_low i h) in
      λ j. reserve j ∷ short_term j ∷ least j ∷ high j ∷ low j ∷ []
