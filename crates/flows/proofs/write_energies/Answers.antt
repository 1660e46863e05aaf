use mathlib.Core.Path.{◌≡◌, ◌∙◌}
use native.Mathlib.Omega.{arith}
use mir.Syntax.{w16}
use mir.Val.{to_z, of_z}
use mir.Facts.{to_z-of_z}
use borrow.Author.Rules.{sfits_of}
use Rattle.market.specs.Records.{amounts_of}
use Rattle.flows.specs.Parts.{energy_of, high_of, low_of}
use Rattle.flows.proofs.Fit.{high_small}
use Rattle.flows.proofs.Parts.{energy_range, one_kept}
use Rattle.flows.proofs.write_energies.Goals as goal
use Rattle.flows.proofs.write_energies.Goals.{After-unsigned-e}

pub unsigned-e-requires : goal.unsigned-e-requires
unfolding amounts_of
unsigned-e-requires c =
    rw c.amounts-a.ensures (energy_range c.requires.bounded c.loop-i.i (omega arith))

energy-is : (c : After-unsigned-e) → c.unsigned-e.result ≡ energy_of c.args.certificate.now.bytes.now c.loop-i.i
unfolding amounts_of
energy-is c = c.unsigned-e.ensures ∙ rw c.amounts-a.ensures

pub narrow-high-requires : goal.narrow-high-requires
narrow-high-requires c =
    rw (energy-is (goal.at.narrow-high-requires c).After-unsigned-e) (high_small _ (c.requires.bounded.most c.loop-i.i (omega arith)))

pub loop-i-preserved : goal.loop-i-preserved
loop-i-preserved c =
    let l = c.loop-i in
    let high_is : to_z w16 (of_z w16 c.narrow-high.result) ≡ high_of (energy_of c.args.certificate.now.bytes.now l.i) = to_z-of_z (sfits_of {w = w16} c.narrow-high.type_inv) ∙ c.narrow-high.ensures ∙ rw (energy-is (goal.at.loop-i-preserved c).After-unsigned-e) in
    let low-is : to_z w16 (of_z w16 c.narrow-low.result) ≡ low_of (energy_of c.args.certificate.now.bytes.now l.i) = to_z-of_z (sfits_of {w = w16} c.narrow-low.type_inv) ∙ c.narrow-low.ensures ∙ rw (energy-is (goal.at.loop-i-preserved c).After-unsigned-e) in
    rw (high_is, low-is) (one_kept c.args.certificate.now.bytes.now l.i l.parts (omega arith) l.invariant)
