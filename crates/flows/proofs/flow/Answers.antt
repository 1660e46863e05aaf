use mathlib.Core.Path.{ap, ◌∙◌}
use native.Mathlib.Omega.{arith}
use borrow.Author.Rules.{rules}
use Rattle.arith.specs.Sums.{sum_of, upto}
use Rattle.market.specs.Records.{watts}
use Rattle.flows.specs.Parts.{high_of, low_of}
use Rattle.flows.specs.declared.EnergyInParts.{EnergyInParts}
use Rattle.flows.proofs.Fit.{high_small, low_small}
use Rattle.flows.proofs.PartSums.{turn_room, turn_sum, flow_is}
use Rattle.flows.proofs.flow.Goals as goal

pub loop-i-init : goal.loop-i-init
unfolding sum_of upto
loop-i-init c = search rules

pub added-highs-requires : goal.added-highs-requires
added-highs-requires c =
    let l = c.loop-i in
    turn_room c.args.energies.now.bounded.standing c.args.g c.requires high_of high_small l.i (omega arith) l.invariant.0 c.factor_at-factor.ensures (ap (λ (p : EnergyInParts). p.high) (c.args.energies.now.energy_parts.each l.i (omega arith)))

pub added-lows-requires : goal.added-lows-requires
added-lows-requires c =
    let l = c.loop-i in
    turn_room c.args.energies.now.bounded.standing c.args.g c.requires low_of low_small l.i (omega arith) l.invariant.1 c.factor_at-factor.ensures (ap (λ (p : EnergyInParts). p.low) (c.args.energies.now.energy_parts.each l.i (omega arith)))

pub loop-i-preserved : goal.loop-i-preserved
loop-i-preserved c =
    let l = c.loop-i in
    let factor-is = c.factor_at-factor.ensures in
    let high_is = ap (λ (p : EnergyInParts). p.high) (c.args.energies.now.energy_parts.each l.i (omega arith)) in
    let low-is = ap (λ (p : EnergyInParts). p.low) (c.args.energies.now.energy_parts.each l.i (omega arith)) in (
      turn_sum c.args.energies.now.bounded.standing c.args.g c.requires high_of high_small l.i (omega arith) l.invariant.0 factor-is high_is c.added-highs.ensures,
      turn_sum c.args.energies.now.bounded.standing c.args.g c.requires low_of low_small l.i (omega arith) l.invariant.1 factor-is low-is c.added-lows.ensures,
    )

pub returns : goal.returns
returns c =
    let l = c.loop-i in
    c.joined.ensures ∙ ap watts (flow_is c.args.energies.now.bounded.standing c.args.g c.requires (omega arith) l.invariant.0 l.invariant.1)
