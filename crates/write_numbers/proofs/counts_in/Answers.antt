use native.Mathlib.Omega.{arith}
use Rattle.write_numbers.proofs.Stages.{counts_from}
use Rattle.write_numbers.proofs.counts_in.Goals as goal

pub count_in-requires : goal.count_in-requires
count_in-requires c = (omega arith, (counts_from c.args.v.now c.requires.1).0.0)

pub count_in-requires-2 : goal.count_in-requires-2
count_in-requires-2 c = (omega arith, (counts_from c.args.v.now c.requires.1).1.0)

pub count_in-requires-3 : goal.count_in-requires-3
count_in-requires-3 c = (omega arith, (counts_from c.args.v.now c.requires.1).2.0)
