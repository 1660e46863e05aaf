use Rattle.std.proofs.Common.{sym, le-ltb, lt-ltb}
use Rattle.case_ranges.proofs.Halves.{zero_plain}
use Rattle.case_soundness.proofs.Steps.{follow_none, follow_some}
use Rattle.case_check.proofs.follows.Goals as goal

pub returns-then-next-eq0 : goal.returns-then-next-eq0
returns-then-next-eq0 c = rw (follow_none _ _ _ _ _ c.if-next-eq0.true) (sym (zero_plain c.args.next.price))

pub returns-then-step-gt0 : goal.returns-then-step-gt0
returns-then-step-gt0 c = rw (follow_some _ _ _ _ _ c.if-next-eq0.false, lt-ltb 0 _ c.if-step-gt0.true)

pub returns-else-step-gt0 : goal.returns-else-step-gt0
returns-else-step-gt0 c = rw (follow_some _ _ _ _ _ c.if-next-eq0.false, le-ltb 0 _ c.if-step-gt0.false)
