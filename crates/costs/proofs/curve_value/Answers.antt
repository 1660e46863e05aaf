use native.Mathlib.Omega.{arith}
use lib.IntN.{nat_abs}
use Rattle.case_records.specs.Ranged.{curve_step}
use Rattle.costs.proofs.Filling.{curve_ranges}
use Rattle.costs.proofs.FillingLoop.{none_filled, part_room, worth_room, one_filled}
use Rattle.costs.proofs.curve_value.Goals as goal

pub loop-step-init : goal.loop-step-init
loop-step-init c = none_filled (curve_step c.args.curve.steps) 4 c.requires

pub worth-requires : goal.worth-requires
worth-requires c =
    let k = c.loop-step in
    part_room (curve_ranges c.args.curve.ranged) (omega arith) (omega arith) (nat_abs c.args.cleared.0) k.step-index k.invariant.0 (omega arith) c.fill-filled.ensures

pub sum-value-requires : goal.sum-value-requires
sum-value-requires c =
    let k = c.loop-step in
    worth_room (curve_ranges c.args.curve.ranged) (omega arith) (omega arith) (nat_abs c.args.cleared.0) k.step-index k.invariant.0 (omega arith) c.fill-filled.ensures c.worth.ensures k.invariant.1

pub loop-step-preserved : goal.loop-step-preserved
loop-step-preserved c =
    let k = c.loop-step in
    one_filled (curve_ranges c.args.curve.ranged) (omega arith) (omega arith) (nat_abs c.args.cleared.0) k.step-index k.invariant.0 (omega arith) c.fill-filled.ensures c.worth.ensures k.invariant.1 c.sum-value.ensures
