use Rattle.std.proofs.Common.{◌≡◌, ◌*◌, ◌≤◌}
use Rattle.wire.specs.CaseParts.{figures_of}
use Rattle.market.specs.Case.{width_of}
use Rattle.case_check.proofs.offer_width.Given as goal

abbrev pub invariant-loop-j : goal.invariant-loop-j
invariant-loop-j l = record {
  widths : l.sum ≡ width_of (figures_of l.resource).step_width l.j;
  room : l.sum ≤ l.j * 4294967295;
}
