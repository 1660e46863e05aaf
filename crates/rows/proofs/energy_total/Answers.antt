use mathlib.Core.Path.{◌∙◌}
use native.Mathlib.Omega.{arith}
use Rattle.arith.specs.Sums.{sum_of, upto}
use Rattle.arith.proofs.Sums.{sum-upto}
use Rattle.market.specs.Records.{amounts_of}
use Rattle.rows.proofs.Known.{energy_room}
use borrow.Author.Rules.{rules}
use Rattle.rows.proofs.energy_total.Goals as goal

pub loop-i-init : goal.loop-i-init
unfolding sum_of upto
loop-i-init c = search rules

pub sum-sum-requires : goal.sum-sum-requires
unfolding amounts_of
sum-sum-requires c =
    rw (c.amounts-a.ensures, c.loop-i.invariant)
    (energy_room c.args.certificate.now.bytes.now c.args.certificate.now.resources c.requires c.args.certificate.now.whole.counts.most_resources c.loop-i.i (omega arith))

pub loop-i-preserved : goal.loop-i-preserved
unfolding amounts_of
loop-i-preserved c = c.sum-sum.ensures ∙ rw (c.amounts-a.ensures, c.loop-i.invariant, sum-upto)
