use mathlib.Core.List.{List}
use mathlib.Core.Path.{◌≡◌, refl, ◌∙◌, ap}
use Prim.Native.Nat.{◌+◌, ◌<◌, ◌≤◌}
use native.Mathlib.Omega.{arith}
use lib.ListN.{length, get_or}
use mir.Syntax.{w64}
use mir.Val.{to_z, of_z}
use mir.Facts.{to_z-of_z}
use borrow.Author.Rules.{rules}
use Rattle.arith.specs.Sums.{total_of}
use Rattle.market.specs.Numbers.{Field, u8, field_width, field_at, numbers_at}
use Rattle.fields.specs.Layout.{field_of, fields_of}
use Rattle.read_numbers.proofs.OneMore.{place_within, next_place, store_number}
use Rattle.read_numbers.proofs.read_numbers.Goals as goal
use Rattle.read_numbers.proofs.read_numbers.Goals.{After-field_at-field}

abbrev fields : After-field_at-field → List Field
fields c = fields_of c.args.file c.args.n.version c.args.n.resources c.args.n.zones c.args.n.flowgates

-- the field that the loop has reached
inside : (c : After-field_at-field) → c.loop-k.k < length (fields c)
inside c = omega arith

told : (c : After-field_at-field) → field_of c.field_at-field.result ≡ get_or (fields c) c.loop-k.k u8
told c = c.field_at-field.ensures c.args.n.flowgates (inside c)

-- it stands in the file
room : (c : After-field_at-field) → c.loop-k.at + field_width (get_or (fields c) c.loop-k.k u8) ≤ length c.args.b.now
room c = place_within (fields c) c.args.b.now c.loop-k.k c.loop-k.at (inside c) c.loop-k.invariant.place c.requires.0.filled

pub loop-k-init : goal.loop-k-init
unfolding numbers_at total_of
loop-k-init c = record { place = refl; stored = refl }

pub number_at-requires : goal.number_at-requires
number_at-requires c = let a = (goal.at.number_at-requires c).After-field_at-field in rw (told a) (room a)

pub overflow_add-at : goal.overflow_add-at
overflow_add-at c =
    let a = (goal.at.overflow_add-at c).After-field_at-field in
    let m = room a in
    let w = c.width-at.ensures ∙ ap field_width (told a) in
    omega arith

pub loop-k-preserved : goal.loop-k-preserved
loop-k-preserved c =
    let a = (goal.at.loop-k-preserved c).After-field_at-field in
    let l = c.loop-k in
    let e : to_z w64 (of_z w64 c.number_at.result) ≡ c.number_at.result = search (rules, to_z-of_z) in
    let v = e ∙ c.number_at.ensures ∙ ap (λ (g : Field). field_at g c.args.b.now l.at) (told a) in
    record {
      place = next_place (fields a) c.args.b.now l.k l.at (inside a) l.invariant.place c.width-at.result (c.width-at.ensures ∙ ap field_width (told a));
      stored = store_number (fields a) c.args.b.now l.k l.at (inside a) l.invariant.place c.args.out.now l.out _ v (omega arith) l.invariant.stored;
    }
