use Rattle.std.proofs.Common.{◌≡◌, ◌+◌, drop, map}
use Rattle.units.specs.Search.{first_false, reaches}
use Rattle.units.proofs.first_below.Given as goal

abbrev pub invariant-loop-k : goal.invariant-loop-k
invariant-loop-k g l = first_false l.first (map reaches l.fn.pairs) ≡ first_false (l.first + l.k) (map reaches (drop l.k l.fn.pairs))
