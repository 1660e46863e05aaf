-- The offers of a resource and the steps of a curve are small enough for their part of the bound.
use Rattle.market.specs.declared.Step.{Step}
use mathlib.Core.List.{List}
use mathlib.Core.Path.{◌≡◌}
use Prim.Native.Nat.{ℕ, suc, ◌+◌, ◌<◌, ◌≤◌}
use native.Mathlib.Nat.{le_refl}
use native.Mathlib.Numerals.{add-one}
use native.Mathlib.Omega.{arith}
use lib.IntN.{nat_abs}
use Rattle.arith.specs.Sums.{upto}
use Rattle.arith.proofs.Lists.{each-upto}
use Rattle.arith.proofs.NaturalSums.{total_mono, total-suc, total_longer}
use Rattle.market.specs.Case.{Case, energy_steps}
use Rattle.market.specs.Records.{offer_step_of, offer_steps_of}
use Rattle.market.proofs.Ranges.{CaseRanges}
use Rattle.market.proofs.AmountSizes.{widths_total}
use Rattle.case_records.specs.Ranged.{offer_step}
use Rattle.case_records.proofs.Ranged.{offer_step_is}
use Rattle.bounds.specs.Sizes.{SmallSteps, steps_width}
use Rattle.market.specs.Sizes.{most_power}

module _ (c : Case) (h : CaseRanges c) (i : ℕ) (n : i < c.resources) where
  pub steps_small : SmallSteps (offer_steps_of (c.resource i))
  unfolding offer_step_of
  steps_small =
      let r = c.resource i in
      record {
        price = λ j l. rw (offer_step_is r j l) ((h.resource i n).step_price j l).le;
        together =
            omega (
              arith,
              total_mono (λ j. nat_abs (offer_step (offer_steps_of r) j).width.0) r.step_width (upto energy_steps) (each-upto _ energy_steps (λ j l. rw (offer_step_is r j l) (le_refl (r.step_width j)))),
              widths_total r.step_width energy_steps,
              (h.resource i n).widths_to,
            );
      }

-- the steps of an offer: widths so far, and with one more; a step by its number
module _ {o : (List Step)} (h : SmallSteps o) where
  abbrev widths : ℕ → ℕ
  widths j = nat_abs (offer_step o j).width.0

  pub widths_next : (j : ℕ) → steps_width o (j + 1) ≡ steps_width o j + nat_abs (offer_step o j).width.0
  widths_next j = rw (add-one j) (total-suc widths j)

  pub widths_room : (j : ℕ) → j < energy_steps → steps_width o j + nat_abs (offer_step o j).width.0 ≤ most_power
  widths_room j l = omega (arith, total-suc widths j, total_longer widths {m = suc j} energy_steps l, h.together)
