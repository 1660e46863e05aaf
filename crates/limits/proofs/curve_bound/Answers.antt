use mathlib.Core.Path.{◌≡◌, ap, ◌∙◌}
use borrow.Author.Rules.{rules}
use lib.ListN.{length}
use Rattle.market.specs.Case.{curve_steps}
use Rattle.market.specs.Records.{power}
use Rattle.market.specs.UpperBounds.{upper_bound}
use Rattle.case_records.specs.Ranged.{curve_step}
use Rattle.limits.specs.Widths.{widths_of}
use Rattle.limits.proofs.Widths.{widths_same, curve_width_is}
use Rattle.limits.proofs.curve_bound.Goals as goal

pub returns : goal.returns
unfolding upper_bound
returns c = λ k l e.
    let n : length c.args.curve.steps ≡ curve_steps = search rules in
    c.total_width.ensures ∙ rw n (ap power (widths_same (widths_of (curve_step c.args.curve.steps)) (k.curve_width l) curve_steps (curve_width_is k l e)))
