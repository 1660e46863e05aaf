-- A list that holds the parts of each energy, as it is filled.
use mathlib.Core.Path.{refl, ◌∙◌}
use mathlib.Core.List.{List}
use Prim.Native.Nat.{ℕ, ◌+◌, ◌<◌}
use native.Mathlib.Omega.{arith}
use lib.IntN.{pos}
use lib.ListN.{length, set, length-set}
use lib.Seq.{get_or-set_same, get_or-set_other}
use borrow.Author.Count.{below_more}
use Rattle.prices.specs.Standing.{Standing}
use Rattle.prices.proofs.Known.{amount_small}
use Rattle.market.specs.UpperBounds.{energy}
use Rattle.case_records.specs.Ranged.{UpTo}
use Rattle.flows.specs.Parts.{energy_of, most_energy, EnergyBounded, in_parts, EnergyParts}
use Rattle.flows.specs.declared.EnergyInParts.{EnergyInParts}

pub energy_bounded : {b q : List ℕ} {r z f : ℕ} → Standing b q r z f → EnergyBounded q r
energy_bounded s = record { most = λ i h. amount_small s i energy tt h }

pub energy_range : {q : List ℕ} {r : ℕ} → EnergyBounded q r → (i : ℕ) → i < r → UpTo (pos (energy_of q i)) most_energy
energy_range e i h = record { natural = refl; at_most = e.most i h }

-- one more
pub one_kept : (q : List ℕ) (i : ℕ) (parts : List EnergyInParts) → i < length parts → EnergyParts q i parts → EnergyParts q (i + 1) (set parts i (in_parts (energy_of q i)))
one_kept q i parts fit kept =
    record {
      long = omega (arith, length-set parts i (in_parts (energy_of q i)));
      each = below_more _ i (λ j h. get_or-set_other parts i j _ (in_parts 0) (λ e. omega arith) ∙ kept.each j h) (get_or-set_same parts i _ (in_parts 0) fit);
    }
