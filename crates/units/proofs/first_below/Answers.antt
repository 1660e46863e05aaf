use Rattle.std.proofs.Common.{sym, ◌∙◌, arith}
use Rattle.units.proofs.Search.{short_here, short_later, short_nowhere}
use Rattle.units.proofs.first_below.Goals as goal

pub returns-then-not-at_least : goal.returns-then-not-at_least
returns-then-not-at_least g c = sym (c.loop-k.invariant ∙ short_here _ _ _ _ (omega arith) (sym c.at_least.ensures ∙ c.if-not-at_least.true))

pub loop-k-preserved : goal.loop-k-preserved
loop-k-preserved g c = c.loop-k.invariant ∙ short_later _ _ _ _ (omega arith) (sym c.at_least.ensures ∙ c.if-not-at_least.false)

pub returns : goal.returns
returns g c = sym (c.loop-k.invariant ∙ short_nowhere _ _ _ (omega arith))
