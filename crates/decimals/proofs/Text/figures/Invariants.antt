use Rattle.std.proofs.Common.{take}
use Rattle.arith.specs.Sums.{across}
use Rattle.decimals.proofs.Front.{figure}
use Rattle.decimals.specs.Written.{Adds}
use Rattle.decimals.proofs.Text.figures.Given as goal

abbrev pub invariant-loop-v : goal.invariant-loop-v
invariant-loop-v l = Adds (across figure (take l.v-index l.vs)) l.initial.self l.self
