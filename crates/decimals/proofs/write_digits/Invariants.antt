use Rattle.std.proofs.Common.{◌≡◌, ◌++◌, drop}
use Rattle.decimals.specs.Digits.{last_digits}
use Rattle.decimals.proofs.write_digits.Given as goal

abbrev pub invariant-loop-i : goal.invariant-loop-i
invariant-loop-i l = last_digits l.i l.rest ++ drop l.i l.out ≡ last_digits l.count l.n ++ drop l.count l.initial.out
