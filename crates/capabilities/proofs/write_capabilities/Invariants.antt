use Rattle.case_reader.specs.Reader.{case_in}
use Rattle.capabilities.specs.Kept.{Kept}
use Rattle.capabilities.proofs.write_capabilities.Given as goal

abbrev pub invariant-loop-i : goal.invariant-loop-i
invariant-loop-i l = Kept (case_in l.case) l.i l.out
