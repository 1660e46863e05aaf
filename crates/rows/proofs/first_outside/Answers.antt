use mathlib.Core.Path.{refl, ◌∙◌}
use Rattle.rows.proofs.first_outside.Goals as goal

pub returns : goal.returns
returns c = c.first_below.ensures ∙ rw (c.sum-with_reserve.ensures, c.sum-up.ensures, c.sum-with_short_term.ensures, c.difference-down.ensures) refl
