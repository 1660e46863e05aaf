use Rattle.std.proofs.Common.{arith, rules}
use Rattle.report.proofs.Printed.{too_short, written}
use Rattle.report.proofs.report.Goals as goal

pub returns-then-out-lt-MOST_TEXT : goal.returns-then-out-lt-MOST_TEXT
returns-then-out-lt-MOST_TEXT c = too_short c.args.input.now c.args.out.now (omega arith)

pub returns : goal.returns
returns c =
    let t = c.new-text in
    let w = written c.args.input.now c.args.out.now t.result c.input_text.new.text t.ensures.buffer t.ensures.empty (omega arith) c.input_text.ensures in
    search rules
