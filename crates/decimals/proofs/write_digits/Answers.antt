use Rattle.std.proofs.Common.{◌≡◌, suc, ◌-◌, ◌∙◌, arith}
use Rattle.decimals.specs.Digits.{last_digits}
use Rattle.decimals.proofs.Digits.{digit_before}
use Rattle.decimals.proofs.write_digits.Goals as goal

pub loop-i-preserved : goal.loop-i-preserved
loop-i-preserved c =
    let l = c.loop-i in
    let e : suc (l.i - 1) ≡ l.i = omega arith in
    digit_before (l.i - 1) l.rest l.out (omega arith) ∙ rw e l.invariant

pub returns : goal.returns
unfolding last_digits
returns c = let e : c.loop-i.i ≡ 0 = omega arith in rw e at c.loop-i.invariant
