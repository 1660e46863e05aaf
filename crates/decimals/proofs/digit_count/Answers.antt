use Rattle.decimals.proofs.Digits.{count_by_log}
use Rattle.decimals.proofs.digit_count.Goals as goal

pub returns : goal.returns
returns c =
    let log = c.checked_ilog10 in
    rw c.unwrap_or.ensures (count_by_log c.args.n log.result log.ensures.none log.ensures.power_le log.ensures.next_power_gt log.ensures.bound)
