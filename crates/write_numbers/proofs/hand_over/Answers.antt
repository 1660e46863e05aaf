use native.Mathlib.Omega.{arith}
use Rattle.write_numbers.proofs.Stages.{passed}
use Rattle.write_numbers.proofs.Handed.{write_short, write_whole}
use Rattle.write_numbers.proofs.hand_over.Goals as goal

pub invariant_of-list : goal.invariant_of-list
invariant_of-list c = record { listed = passed c.args.file c.args.v.now _ c.requires.0 c.requires.1 }

pub returns-then-out-size : goal.returns-then-out-size
returns-then-out-size c = let e = c.size-size.ensures.0 in write_short c.args.file c.args.v.now c.args.out.now _ c.requires.0 c.requires.1 (omega arith)

pub returns : goal.returns
returns c = let e = c.size-size.ensures.0 in rw e (write_whole c.args.file c.args.v.now c.args.out.now _ c.requires.0 c.requires.1 _ (omega arith) c.put.ensures)
