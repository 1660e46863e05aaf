use Rattle.std.proofs.Common.{rules, arith, length, ◌≡◌, [], refl, ◌∙◌}
use Rattle.arith.proofs.Buffers.{rest_length}
use Rattle.market.specs.Program.{digits_on}
use Rattle.decimals.specs.Digits.{digit_count}
use Rattle.decimals.specs.Written.{most_digits}
use Rattle.decimals.proofs.Digits.{count_most, last_length, magnitude_digits}
use Rattle.decimals.proofs.Front.{adds_part}
use Rattle.decimals.proofs.Text.magnitude.Goals as goal

pub write_digits-requires : goal.write_digits-requires
write_digits-requires c = let s = c.args.self.now in omega (arith, c.digit_count-count.ensures, count_most most_digits c.args.n, rest_length s.length s.buffer.now)

pub overflow_add-self : goal.overflow_add-self
overflow_add-self c = let m = count_most most_digits c.args.n in let e = c.digit_count-count.ensures in search rules

pub returns : goal.returns
returns c =
    let s = c.args.self.now in
    let n = c.args.n in
    let w = c.write_digits in
    let t = digits_on most_digits n [] in
    let e : c.digit_count-count.result ≡ length t = c.digit_count-count.ensures ∙ rw (magnitude_digits n, last_length (digit_count most_digits n) n) refl in
    (refl, rw e refl, adds_part t w.new.out s.buffer.now c.digit_count-count.result s.length (omega arith) e (rw (magnitude_digits n, ← c.digit_count-count.ensures) w.ensures))
