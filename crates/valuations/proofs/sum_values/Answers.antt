use native.Mathlib.Omega.{arith}
use Rattle.costs.proofs.Known.{resources_room}
use Rattle.valuations.proofs.sum_values.Goals as goal

pub sum-worth-requires : goal.sum-worth-requires
sum-worth-requires c = rw (c.resource_value-one.ensures.worth_is, c.loop-i.invariant.worth_is) (resources_room c.args.kept.now.bounded.standing c.loop-i.i (omega arith))
