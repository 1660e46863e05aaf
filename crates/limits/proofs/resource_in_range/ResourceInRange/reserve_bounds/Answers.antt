use mathlib.Core.Path.{sym, ◌∙◌}
use Rattle.limits.proofs.WhichBounds.{bounds_when, tripped_bounds}
use Rattle.limits.proofs.resource_in_range.ResourceInRange.reserve_bounds.Goals as goal

pub returns-in-OnLine : goal.returns-in-OnLine
returns-in-OnLine c = λ k s m t a e. c.on_line_bounds.ensures k s m t e ∙ bounds_when k s (sym c.in-OnLine.is ∙ a)

pub returns-in-OffLine : goal.returns-in-OffLine
returns-in-OffLine c = λ k s m t a e. c.off_line_bounds.ensures k s t e ∙ bounds_when k s (sym c.in-OffLine.is ∙ a)

pub returns-in-Tripped : goal.returns-in-Tripped
returns-in-Tripped c = λ k s m t a e. sym (tripped_bounds k s) ∙ bounds_when k s (sym c.in-Tripped.is ∙ a)
