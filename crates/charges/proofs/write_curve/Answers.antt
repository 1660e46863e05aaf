use mathlib.Core.Path.{◌∙◌}
use lib.IntN.{nat_abs}
use Rattle.std.proofs.Common.{◌≡◌, arith, rules, w64, to_z, of_z}
use Rattle.std.proofs.lemmas.Int.{to_z-of_z}
use Rattle.market.specs.Records.{grains}
use Rattle.case_records.specs.Ranged.{curve_step}
use Rattle.charges.specs.Terms.{curve_charge}
use Rattle.charges.proofs.Fit.{curve_step_room}
use Rattle.charges.proofs.StepCharges.{filled_at, filled_now, none_charged, one_charged}
use Rattle.charges.proofs.write_curve.Goals as goal
use Rattle.charges.proofs.write_curve.Goals.{After-fill-filled}

pub loop-j-init : goal.loop-j-init
loop-j-init c = none_charged c.requires.0.cleared

filling : (c : After-fill-filled) →
    c.fill-filled.result ≡ filled_at (curve_step c.args.curve.steps) (nat_abs c.args.cleared.0) c.loop-j.j
filling c = filled_now c.loop-j.invariant c.fill-filled.ensures

pub curve_step_charge-charge-requires : goal.curve_step_charge-charge-requires
curve_step_charge-charge-requires c = rw (filling (goal.at.curve_step_charge-charge-requires c).After-fill-filled) (c.requires.0.row_price, curve_step_room c.args.curve.ranged (nat_abs c.args.cleared.0) c.loop-j.j (omega arith))

pub loop-j-preserved : goal.loop-j-preserved
loop-j-preserved c =
    let value = c.curve_step_charge-charge.result.0 in
    let e : to_z w64 (of_z w64 value) ≡ value = search (rules, to_z-of_z) in
    let f = filling (goal.at.loop-j-preserved c).After-fill-filled in
    let v : c.curve_step_charge-charge.result ≡ grains (curve_charge c.args.price c.args.curve.steps (nat_abs c.args.cleared.0) c.loop-j.j) = c.curve_step_charge-charge.ensures ∙ rw f in
    rw (e, v) (one_charged c.loop-j.invariant (omega arith) f)
