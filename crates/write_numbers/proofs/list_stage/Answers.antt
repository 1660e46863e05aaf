use mathlib.Core.Path.{sym, ◌∙◌}
use Rattle.write_numbers.proofs.Stages.{counts_within}
use Rattle.write_numbers.proofs.list_stage.Goals as goal

pub numbers_fit-requires : goal.numbers_fit-requires
numbers_fit-requires c = rw c.counts_in-n.ensures (counts_within c.args.v.now (sym c.counts_in_range.ensures ∙ c.if-not-counts_in_range.false))
