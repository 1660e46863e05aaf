use mathlib.Core.List.{List}
use mathlib.Core.Path.{◌≡◌, refl, sym, ◌∙◌, ap}
use Prim.Native.Nat.{ℕ, ◌+◌, ◌<◌, ◌≤◌}
use native.Mathlib.Omega.{arith}
use lib.IntN.{pos}
use lib.ListN.{length, get_or}
use mir.Syntax.{w64}
use mir.Val.{to_z, of_z}
use mir.Facts.{to_z-of_z}
use borrow.Author.Rules.{rules}
use Rattle.arith.specs.Sums.{total_of}
use Rattle.market.specs.Numbers.{Field, u8, field_width, bytes_of}
use Rattle.fields.specs.Layout.{field_of, fields_of}
use Rattle.fields.proofs.Walk.{width_next, width_within}
use Rattle.write_numbers.proofs.Walked.{fit_length, fit_at, bytes_whole}
use Rattle.wire.specs.Within.{written}
use Rattle.write_numbers.proofs.Stored.{written_none, put_next}
use Rattle.write_numbers.proofs.NumberList.put_numbers.Goals as goal
use Rattle.write_numbers.proofs.NumberList.put_numbers.Goals.{After-field_at-field}

abbrev fields : After-field_at-field → List Field
fields c = fields_of c.args.self.now.file c.args.self.now.counts.version c.args.self.now.counts.resources c.args.self.now.counts.zones c.args.self.now.counts.flowgates

same : (c : After-field_at-field) → length (fields c) ≡ length c.args.self.now.numbers.now
same c = fit_length (fields c) c.args.self.now.numbers.now c.args.self.now.listed.fit

-- the field that the loop has reached
inside : (c : After-field_at-field) → c.loop-k.k < length (fields c)
inside c = omega (arith, same c)

told : (c : After-field_at-field) → field_of c.field_at-field.result ≡ get_or (fields c) c.loop-k.k u8
told c = c.field_at-field.ensures c.args.self.now.counts.flowgates (inside c)

-- it fits in the buffer
room : (c : After-field_at-field) → c.loop-k.at + field_width (get_or (fields c) c.loop-k.k u8) ≤ length c.loop-k.out
room c = omega (arith, c.loop-k.invariant.place, c.loop-k.auto.out, c.requires, width_within (fields c) c.loop-k.k (inside c))

number : (c : After-field_at-field) → to_z w64 (of_z w64 (get_or c.args.self.now.numbers.now c.loop-k.k (pos 0))) ≡ get_or c.args.self.now.numbers.now c.loop-k.k (pos 0)
number c = search (rules, to_z-of_z)

pub loop-k-init : goal.loop-k-init
unfolding bytes_of total_of
loop-k-init c = record { place = refl; stored = sym (written_none 5 c.args.out.now) }

pub put_number-requires : goal.put_number-requires
put_number-requires c =
    let a = (goal.at.put_number-requires c).After-field_at-field in
    rw (told a, number a) (room a, record { fits = fit_at (fields a) c.args.self.now.numbers.now c.loop-k.k c.args.self.now.listed.fit (inside a) })

pub overflow_add-at : goal.overflow_add-at
overflow_add-at c =
    let a = (goal.at.overflow_add-at c).After-field_at-field in
    let r = room a in
    let w = c.width-at.ensures ∙ ap field_width (told a) in
    omega arith

pub loop-k-preserved : goal.loop-k-preserved
loop-k-preserved c =
    let a = (goal.at.loop-k-preserved c).After-field_at-field in
    let w = c.width-at.ensures ∙ ap field_width (told a) in
    record {
      place = omega (arith, c.loop-k.invariant.place, width_next (fields a) c.loop-k.k (inside a));
      stored = put_next (fields a) c.args.self.now.numbers.now (same a) c.args.out.now c.requires c.loop-k.k c.loop-k.at c.loop-k.out _ (inside a) c.loop-k.invariant.place c.loop-k.invariant.stored (c.put_number.ensures ∙ rw (told a, number a));
    }

pub returns : goal.returns
returns c =
    let n = c.args.self.now.counts in
    let fs = fields_of c.args.self.now.file n.version n.resources n.zones n.flowgates in
    let e : length fs ≡ length c.args.self.now.numbers.now = fit_length fs c.args.self.now.numbers.now c.args.self.now.listed.fit in
    c.loop-k.invariant.stored ∙ ap (λ (x : List ℕ). written 5 x c.args.out.now) (bytes_whole fs c.args.self.now.numbers.now c.loop-k.k e (omega arith))
