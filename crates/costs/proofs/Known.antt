-- What a standing case and certificate are known to be, for their cost: ranges, and that the sums fit.
use mathlib.Core.Path.{refl}
use mathlib.Core.List.{List}
use Prim.Native.Nat.{ℕ, ◌*◌, ◌<◌, ◌≤◌}
use native.Mathlib.Omega.{arith}
use lib.IntN.{pos, nat_abs, ◌+ℤ◌, ◌-ℤ◌}
use Rattle.arith.specs.Sums.{sum_of, total_of, upto}
use Rattle.arith.proofs.Magnitudes.{abs-add, abs-sub}
use Rattle.arith.proofs.NaturalSums.{upto-size, sum-size}
use Rattle.market.proofs.Versions.{all_four_curves, curves_most}
use Rattle.market.specs.Case.{Case, curves}
use Rattle.market.specs.declared.Curve.{Curve}
use Rattle.market.specs.declared.Curve.TheVariants.{Operating as operating, RegulatingPlusSpinning as regulating_plus_spinning, Regulating as regulating, ShortTerm as short_term}
use Rattle.market.specs.CaseFile.{case_of}
use Rattle.market.specs.UpperBounds.{Schedule, cleared_quantity, energy}
use Rattle.market.specs.Certificate.{certificate_of}
use Rattle.market.specs.Records.{record_of, offer_steps_of, amounts_of}
use Rattle.market.proofs.ScheduleSizes.{amount_of}
use Rattle.case_records.specs.Ranged.{UpTo, Ranged, RangedSteps, offer_step}
use Rattle.case_records.proofs.Ranged.{valid_resource, valid_steps, valid_curve}
use Rattle.units.specs.Room.{SumRoom}
use Rattle.prices.specs.Standing.{Standing}
use Rattle.prices.proofs.Known.{case_ranges, resource_below, amount_small, amounts_small}
use Rattle.costs.specs.Steps.{most_in_steps, steps_worth}
use Rattle.costs.specs.Worth.{resource_worth, curve_value, reserves_worth}
use Rattle.costs.proofs.Filling.{steps_size, offer_ranges, curve_ranges}
use Rattle.costs.proofs.Totals.{reserves_size, resource_worth_is, curve_value_is}

module _ {b q : List ℕ} {r z f : ℕ} (s : Standing b q r z f) where
  abbrev c : Case
  c = case_of b

  abbrev x : Schedule
  x = (certificate_of q).amount

  -- ---- a resource
  pub resource_known : (i : ℕ) → i < r → Ranged (record_of (c.resource i))
  resource_known i l = valid_resource b s.prices.valid i (resource_below s.prices l)

  steps_known : (i : ℕ) → i < r → RangedSteps (offer_steps_of (c.resource i))
  steps_known i l = valid_steps b s.prices.valid i (resource_below s.prices l)

  pub energy_known : (i : ℕ) → i < r → UpTo (amounts_of x i).energy.0 2000000
  unfolding amounts_of
  energy_known i l = record { natural = refl; at_most = amount_small s i energy tt l }

  energy_size : (i : ℕ) → i < r → nat_abs (steps_worth (offer_step (offer_steps_of (c.resource i))) (nat_abs (amounts_of x i).energy.0) 10) ≤ 8000000000000
  energy_size i l = steps_size (offer_ranges (steps_known i l)) (omega arith) (omega arith) (nat_abs (amounts_of x i).energy.0) 10 (omega arith)

  pub resource_room : (i : ℕ) → i < r → SumRoom (steps_worth (offer_step (offer_steps_of (c.resource i))) (nat_abs (amounts_of x i).energy.0) 10) (reserves_worth (record_of (c.resource i)).offers (amounts_of x i))
  resource_room i l = omega (arith, energy_size i l, reserves_size (resource_known i l).offers (amounts_small s i l))

  resource_size_lem : (i : ℕ) → i < r → nat_abs (resource_worth c x i) ≤ 10400000000000
  resource_size_lem i l =
      rw (← (resource_worth_is c x i))
      (omega (
        arith,
        abs-add (steps_worth (offer_step (offer_steps_of (c.resource i))) (nat_abs (amounts_of x i).energy.0) 10) (reserves_worth (record_of (c.resource i)).offers (amounts_of x i)),
        energy_size i l,
        reserves_size (resource_known i l).offers (amounts_small s i l),
      ))

  -- ---- the first n resources
  pub resources_size : (n : ℕ) → n ≤ r → nat_abs (sum_of (resource_worth c x) (upto n)) ≤ n * 10400000000000
  resources_size n l = upto-size (resource_worth c x) 10400000000000 n (λ i k. resource_size_lem i (omega arith))

  pub resources_room : (n : ℕ) → n < r → SumRoom (sum_of (resource_worth c x) (upto n)) (resource_worth c x n)
  resources_room n l = omega (arith, resources_size n (omega arith), resource_size_lem n l, s.prices.case_bytes.counts.most_resources)

  -- ---- curves
  pub cleared_known : (k : Curve) → UpTo (pos (x (cleared_quantity k))) most_in_steps
  cleared_known k = record { natural = refl; at_most = amount_of c (case_ranges s.prices) x s.bounded (cleared_quantity k) (all_four_curves c.version k) }

  pub curve_size : (k : Curve) → nat_abs (curve_value c x k) ≤ 12800000000000
  curve_size k = rw (← (curve_value_is c x k)) (steps_size (curve_ranges (valid_curve b s.prices.valid k)) (omega arith) (omega arith) (x (cleared_quantity k)) 4 (omega arith))

  -- of two and of three
  pub two_curves_size : nat_abs (curve_value c x regulating +ℤ curve_value c x short_term) ≤ 25600000000000
  two_curves_size = omega (arith, abs-add (curve_value c x regulating) (curve_value c x short_term), curve_size regulating, curve_size short_term)

  pub three_curves_size : nat_abs (curve_value c x regulating_plus_spinning +ℤ (curve_value c x regulating +ℤ curve_value c x short_term)) ≤ 38400000000000
  three_curves_size = omega (arith, abs-add (curve_value c x regulating_plus_spinning) (curve_value c x regulating +ℤ curve_value c x short_term), curve_size regulating_plus_spinning, two_curves_size)

  curves_size : nat_abs (sum_of (curve_value c x) (curves c.version)) ≤ 51200000000000
  unfolding total_of
  curves_size = omega (arith, sum-size (curve_value c x) (curves c.version), curves_most c.version (λ k. nat_abs (curve_value c x k)), curve_size operating, curve_size regulating_plus_spinning, curve_size regulating, curve_size short_term)

  -- ---- all
  pub cost_room : SumRoom (sum_of (resource_worth c x) (upto r)) (sum_of (curve_value c x) (curves c.version))
  cost_room = omega (arith, resources_size r (omega arith), curves_size, s.prices.case_bytes.counts.most_resources)

  pub grains_room : nat_abs (sum_of (resource_worth c x) (upto r) -ℤ sum_of (curve_value c x) (curves c.version)) ≤ 1000000000000000
  grains_room =
      omega (arith, abs-sub (sum_of (resource_worth c x) (upto r)) (sum_of (curve_value c x) (curves c.version)), resources_size r (omega arith), curves_size, s.prices.case_bytes.counts.most_resources)
