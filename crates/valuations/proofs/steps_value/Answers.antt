use native.Mathlib.Omega.{arith}
use lib.IntN.{nat_abs}
use borrow.Author.Rules.{rules}
use Rattle.arith.proofs.SumSteps.{sum_steps}
use Rattle.case_records.specs.Ranged.{offer_step}
use Rattle.costs.specs.Steps.{StepRanges}
use Rattle.costs.proofs.Filling.{offer_ranges}
use Rattle.costs.proofs.FillingLoop.{none_filled, part_room, worth_room, one_filled}
use Rattle.bounds.proofs.PricedSizes.{widths_next, widths_room}
use Rattle.valuations.proofs.steps_value.Goals as goal
use Rattle.valuations.proofs.steps_value.Goals.{Start}

ranges : (c : Start) → StepRanges (offer_step c.args.offer.steps) 10 2000000
ranges c = offer_ranges c.args.offer.ranged

pub loop-step-init : goal.loop-step-init
loop-step-init c = record { filled = none_filled (offer_step c.args.offer.steps) 10 c.requires.provided; least = record { is = search (rules, sum_steps); size = omega arith } }

pub worth-requires : goal.worth-requires
worth-requires c =
    let k = c.loop-step in
    part_room (ranges (goal.at.worth-requires c).Start) (omega arith) (omega arith) (nat_abs c.args.energy.0) k.step-index k.invariant.filled.0 (omega arith) c.fill-filled.ensures

pub sum-worth-requires : goal.sum-worth-requires
sum-worth-requires c =
    let k = c.loop-step in
    worth_room (ranges (goal.at.sum-worth-requires c).Start) (omega arith) (omega arith) (nat_abs c.args.energy.0) k.step-index k.invariant.filled.0 (omega arith) c.fill-filled.ensures c.worth.ensures k.invariant.filled.1

pub sized_sum-least-requires : goal.sized_sum-least-requires
sized_sum-least-requires c = omega (arith, widths_room c.requires.small_steps c.loop-step.step-index (omega arith))

pub loop-step-preserved : goal.loop-step-preserved
loop-step-preserved c =
    let k = c.loop-step in
    record {
      filled = one_filled (ranges (goal.at.loop-step-preserved c).Start) (omega arith) (omega arith) (nat_abs c.args.energy.0) k.step-index k.invariant.filled.0 (omega arith) c.fill-filled.ensures c.worth.ensures k.invariant.filled.1 c.sum-worth.ensures;
      least = record { is = search (rules, sum_steps); size = omega (arith, widths_next c.requires.small_steps k.step-index) };
    }
