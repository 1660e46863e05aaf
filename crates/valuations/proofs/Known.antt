-- What is known of the records of a resource of a standing case and certificate.
use Rattle.market.specs.declared.Step.{Step}
use Rattle.market.specs.declared.PerService.{PerService}
use Rattle.market.specs.declared.Kw.{Kw}
use mathlib.Core.Path.{◌≡◌}
use mathlib.Core.List.{List}
use Prim.Native.Nat.{ℕ, ◌<◌}
use Rattle.market.specs.CaseFile.{case_of}
use Rattle.market.specs.Certificate.{certificate_of}
use Rattle.market.specs.Records.{offer_steps_of, amounts_of}
use Rattle.prices.specs.Standing.{Standing}
use Rattle.prices.proofs.Known.{case_ranges, resource_below}
use Rattle.costs.proofs.Known.{energy_known}
use Rattle.bounds.proofs.PricedSizes.{steps_small}
use Rattle.valuations.specs.Values.{StepsRoom}

-- its steps and its energy
pub steps_room : {b q : List ℕ} {r z f : ℕ} (s : Standing b q r z f) (i : ℕ) → i < r →
    {o : List Step} {a : PerService Kw} → o ≡ offer_steps_of ((case_of b).resource i) → a ≡ amounts_of (certificate_of q).amount i →
    StepsRoom o a.energy
steps_room {b} {q} s i l eo ea =
    let below = resource_below s.prices l in
    rw (eo, ea)
    (record {
      small_steps = steps_small (case_of b) (case_ranges s.prices) i below;
      provided = energy_known s i l;
    })
