use mathlib.Core.List.{List, ◌++◌, map}
use mathlib.Core.Path.{◌≡◌, refl, sym, ap, ◌∙◌}
use mathlib.Core.Bool.{false}
use Prim.Native.Nat.{ℕ, ◌≤◌}
use native.Mathlib.Omega.{arith}
use lib.ListN.{length, drop}
use lib.IntN.{ℤ, pos, nat_abs}
use Rattle.market.specs.Cost.{resource_priced_count}
use Rattle.arith.specs.Sums.{upto}
use Rattle.market.specs.Records.{record_of, offer_steps_of, amounts_of}
use Rattle.market.specs.Availability.{on_line}
use Rattle.limits.specs.Together.{reserve_bounds_of}
use Rattle.arith.proofs.Buffers.{rest_length, write_on}
use Rattle.costs.proofs.OffLine.{no_energy}
use Rattle.charges.specs.Terms.{energy_charge, reserve_charges}
use Rattle.charges.proofs.Families.{numbers_count, resource_priced_is}
use Rattle.charges.proofs.Known.{energy_fits, bounds_fit, resource_listed}
use Rattle.charges.proofs.write_resource.Goals as goal
use Rattle.charges.proofs.write_resource.Goals.{After-bounds-uppers, After-offer_steps-offer, After-on_line-on, After-resource-resource, After-write_energy}
use Rattle.prices.specs.PricedCase.{the_case}

resource : (c : After-resource-resource) →
    c.resource-resource.result ≡ record_of ((the_case c.args.kept.now.bounded.priced).resource c.args.i)
resource c = c.resource-resource.ensures

steps : (c : After-offer_steps-offer) →
    c.offer_steps-offer.result.steps ≡ offer_steps_of ((the_case c.args.kept.now.bounded.priced).resource c.args.i)
steps c = c.offer_steps-offer.ensures

on_line_is : (c : After-on_line-on) → c.on_line-on.result ≡ on_line ((the_case c.args.kept.now.bounded.priced).resource c.args.i)
on_line_is c = c.on_line-on.ensures

bounds : (c : After-bounds-uppers) → c.bounds-uppers.result ≡ reserve_bounds_of (the_case c.args.kept.now.bounded.priced) ((the_case c.args.kept.now.bounded.priced).resource c.args.i)
bounds c = c.bounds-uppers.ensures

room : (c : After-write_energy) → resource_priced_count (the_case c.args.kept.now.bounded.priced).version ≤ length c.write_energy.new.out
room c = omega (arith, c.write_energy.auto.out, c.requires.room.1)

idle : (c : After-on_line-on) → c.on_line-on.result ≡ false → c.amounts-own.result.amounts.energy.0 ≡ pos 0
unfolding amounts_of
idle c off = rw c.amounts-own.ensures (ap pos (no_energy c.args.kept.now.bounded.standing c.args.i c.requires.room.0 (sym (on_line_is c) ∙ off)))

pub write_energy-requires : goal.write_energy-requires
write_energy-requires c =
    let p = c.args.kept.now.bounded.standing in
    let l = c.requires.room.0 in
    let room : 10 ≤ length c.args.out.now = omega (arith, c.requires.room.1) in
    ((energy_fits p l c.amounts-own.ensures, idle (goal.at.write_energy-requires c).After-on_line-on), room)

pub write_reserves-requires : goal.write_reserves-requires
write_reserves-requires c =
    let p = c.args.kept.now.bounded.standing in
    let l = c.requires.room.0 in (
      bounds_fit p l (bounds (goal.at.write_reserves-requires c).After-bounds-uppers),
      rw (rest_length 10 c.write_energy.new.out) (omega (arith, room (goal.at.write_reserves-requires c).After-write_energy)),
    )

pub returns : goal.returns
returns c =
    let n = c.nets_for-nets in
    let a = c.amounts-own in
    let on = c.on_line-on in
    let u = c.bounds-uppers in
    let p = c.offer_steps-offer.result.steps in
    let w = c.write_energy in
    let x = c.write_reserves in
    let o = c.args.out.now in
    let g = energy_charge n.result.prices on.result p (nat_abs a.result.amounts.energy.0) in
    write_on (map g (upto 10)) (reserve_charges n.result.prices a.result.amounts u.result) o w.new.out x.new.out 10 4 10 (numbers_count g 10) refl (omega (arith, c.requires.room.1)) w.ensures x.ensures
    ∙ ap (λ (m : ℕ). (map g (upto 10) ++ reserve_charges n.result.prices a.result.amounts u.result) ++ drop m o) (sym (resource_priced_is (the_case c.args.kept.now.bounded.priced).version))
    ∙ ap (λ (l : List ℤ). l ++ drop (resource_priced_count (the_case c.args.kept.now.bounded.priced).version) o) (resource_listed c.args.kept.now.bounded.standing c.requires.room.0 n.ensures (on_line_is (goal.at.returns c).After-on_line-on) (steps (goal.at.returns c).After-offer_steps-offer) a.ensures (bounds (goal.at.returns c).After-bounds-uppers))
