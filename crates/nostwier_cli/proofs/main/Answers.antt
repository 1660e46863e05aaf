-- What `nostwier_cli::main` writes lies within its buffer.
use Rattle.std.proofs.Common.{◌≤◌, length, take, arith, sym}
use lib.Seq.{length-take-le}
use Rattle.printed_lines.specs.Room.{most_text}
use Rattle.report.proofs.Printed.{count_within}
use Rattle.nostwier_cli.proofs.main.Goals as goal
use Rattle.nostwier_cli.proofs.main.Goals.{After-report-count}

-- the text lies within the buffer
within : (c : After-report-count) → c.report-count.result ≤ length c.report-count.new.out
within c = let w = c.report-count in omega (arith, w.auto.out, count_within (take c.in_ok-got.got c.read_full.new.buf) most_text w.result w.ensures.0)

pub slice_bounds-out-end : goal.slice_bounds-out-end
slice_bounds-out-end c = within (goal.at.slice_bounds-out-end c).After-report-count

pub slice_bounds-write_all-end : goal.slice_bounds-write_all-end
slice_bounds-write_all-end c = let w = c.report-count in sym (length-take-le w.result w.new.out (within (goal.at.slice_bounds-write_all-end c).After-report-count))
