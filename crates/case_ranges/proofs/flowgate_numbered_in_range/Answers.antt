use mathlib.Core.Path.{◌∙◌}
use Rattle.case_ranges.proofs.Places.{flowgate_here}
use Rattle.case_ranges.proofs.flowgate_numbered_in_range.Goals as goal

pub returns : goal.returns
returns c =
    let e = c.flowgate_bytes.ensures in
    c.flowgate_in_range.ensures ∙ rw (e.bytes, e.at, e.resources) (flowgate_here c.args.case.now.whole c.args.f)
