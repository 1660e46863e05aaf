use Rattle.std.proofs.Common.{arith, refl}
use Rattle.arith.specs.Sums.{sum_of, upto}
use Rattle.arith.proofs.Sums.{sum-upto}
use Rattle.prices.proofs.Known.{congestion_size, congestion_room, congestion_so_far}
use Rattle.prices.proofs.priced_case.PricedCase.congestion.Goals as goal

pub loop-g-init : goal.loop-g-init
unfolding sum_of upto
loop-g-init c = refl

pub factored-t-requires : goal.factored-t-requires
factored-t-requires c =
    rw (c.flowgate_price-p.ensures, c.shift_factor-x.ensures) (congestion_room c.args.self.now.prices_stand c.loop-g.g c.args.i (omega arith) c.requires)

pub sum-sum-requires : goal.sum-sum-requires
sum-sum-requires c =
    let g = c.loop-g.g in
    rw (c.factored-t.ensures, c.flowgate_price-p.ensures, c.shift_factor-x.ensures, c.loop-g.invariant)
    (omega (arith, congestion_size c.args.self.now.prices_stand g c.args.i (omega arith) c.requires, congestion_so_far c.args.self.now.prices_stand g c.args.i (omega arith) c.requires, c.args.self.now.prices_stand.case_bytes.counts.most_flowgates))

pub loop-g-preserved : goal.loop-g-preserved
loop-g-preserved c = rw (c.sum-sum.ensures, c.factored-t.ensures, c.flowgate_price-p.ensures, c.shift_factor-x.ensures, c.loop-g.invariant, sum-upto)
