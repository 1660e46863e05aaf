use native.Mathlib.Omega.{arith}
use Rattle.read_numbers.proofs.Handed.{count_small, read_short, read_whole}
use Rattle.read_numbers.proofs.Stages.{passed}
use Rattle.read_numbers.proofs.hand_over.Goals as goal

pub count-count-requires : goal.count-count-requires
count-count-requires c = (passed c.args.file c.args.b.now c.args.n c.requires.0 c.requires.1).counts

pub returns-then-out-count : goal.returns-then-out-count
returns-then-out-count c = let e = c.count-count.ensures in read_short c.args.file c.args.b.now c.args.out.now c.args.n c.requires.1 c.requires.0 (omega arith)

pub read_numbers-requires : goal.read_numbers-requires
read_numbers-requires c = let e = c.count-count.ensures in (passed c.args.file c.args.b.now c.args.n c.requires.0 c.requires.1, omega arith)

pub overflow_cast-result : goal.overflow_cast-result
overflow_cast-result c =
    let e = c.count-count.ensures in
    let m = count_small c.args.file c.args.n.version (passed c.args.file c.args.b.now c.args.n c.requires.0 c.requires.1).counts in
    omega arith

pub returns : goal.returns
returns c = let e = c.count-count.ensures in rw e (read_whole c.args.file c.args.b.now c.args.out.now c.args.n c.requires.1 c.requires.0 _ (omega arith) c.read_numbers.ensures)
