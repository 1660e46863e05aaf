use mathlib.Core.Path.{◌∙◌}
use lib.IntN.{nat_abs}
use Rattle.std.proofs.Common.{◌≡◌, true, arith, rules, w64, to_z, of_z}
use Rattle.std.proofs.lemmas.Int.{to_z-of_z}
use Rattle.market.specs.Records.{grains}
use Rattle.case_records.specs.Ranged.{offer_step}
use Rattle.charges.specs.Terms.{energy_charge}
use Rattle.charges.proofs.Fit.{offer_step_room}
use Rattle.charges.proofs.StepCharges.{filled_at, filled_now, none_charged, one_charged}
use Rattle.charges.proofs.write_steps.Goals as goal
use Rattle.charges.proofs.write_steps.Goals.{After-fill-filled}

pub loop-j-init : goal.loop-j-init
loop-j-init c = none_charged c.requires.0

filling : (c : After-fill-filled) →
    c.fill-filled.result ≡ filled_at (offer_step c.args.offer.steps) (nat_abs c.args.energy.0) c.loop-j.j
filling c = filled_now c.loop-j.invariant c.fill-filled.ensures

pub step_charge-charge-requires : goal.step_charge-charge-requires
step_charge-charge-requires c = rw (filling (goal.at.step_charge-charge-requires c).After-fill-filled) (offer_step_room c.args.offer.ranged (nat_abs c.args.energy.0) c.loop-j.j (omega arith))

pub loop-j-preserved : goal.loop-j-preserved
loop-j-preserved c =
    let value = c.step_charge-charge.result.0 in
    let e : to_z w64 (of_z w64 value) ≡ value = search (rules, to_z-of_z) in
    let f = filling (goal.at.loop-j-preserved c).After-fill-filled in
    let v : c.step_charge-charge.result ≡ grains (energy_charge c.args.nets.prices true c.args.offer.steps (nat_abs c.args.energy.0) c.loop-j.j) = c.step_charge-charge.ensures ∙ rw f in
    rw (e, v) (one_charged c.loop-j.invariant (omega arith) f)
