use native.Mathlib.Omega.{arith}
use Rattle.report.proofs.Printed.{printed_long, parts_text}
use Rattle.report.proofs.input_text.Goals as goal

pub returns-then-input-gt-MOST_INPUT : goal.returns-then-input-gt-MOST_INPUT
returns-then-input-gt-MOST_INPUT c = rw (printed_long c.args.input.now (omega arith)) c.refusal_line.ensures

pub returns : goal.returns
returns c = let n = c.case_end-at in rw (← (parts_text c.args.input.now n.result n.ensures (omega arith))) c.outcome_text.ensures
