use Rattle.std.proofs.Common.{◌≡◌, arith, rules, [], ◌∷◌, ◌*◌, length, take, get_or, take_all, pos, to_z, of_z, w64}
use Rattle.std.proofs.lemmas.Int.{to_z-of_z}
use Rattle.arith.specs.Sums.{across}
use Rattle.decimals.proofs.Front.{figure, figures_most, figures_taken, figure_more, spaced_are, adds_nothing, adds_on, room_left}
use Rattle.decimals.proofs.Text.figures.Goals as goal

pub loop-v-init : goal.loop-v-init
unfolding across
loop-v-init c = adds_nothing c.args.self.now

pub figure-requires : goal.figure-requires
figure-requires c =
    let l = c.loop-v in
    let vs = take l.v-index c.args.vs.now in
    room_left (across figure vs) c.args.self.now l.self (22 * l.v-index) 22 (omega arith) (figures_taken c.args.vs.now l.v-index (omega arith)) l.invariant

pub loop-v-preserved : goal.loop-v-preserved
loop-v-preserved c =
    let l = c.loop-v in
    let vs = c.args.vs.now in
    let v = get_or vs l.v-index (pos 0) in
    let e : to_z w64 (of_z w64 v) ≡ v = search (rules, to_z-of_z) in
    let p = take l.v-index vs in
    rw (figure_more vs l.v-index (omega arith)) (adds_on (across figure p) (figure v) c.args.self.now l.self c.figure.new.self (omega (arith, figures_taken vs l.v-index (omega arith))) l.invariant (rw e at c.figure.ensures))

pub byte-requires : goal.byte-requires
byte-requires c =
    let l = c.loop-v in
    let vs = take l.v-index c.args.vs.now in
    room_left (across figure vs) c.args.self.now l.self (22 * l.v-index) 1 (omega arith) (figures_taken c.args.vs.now l.v-index (omega arith)) l.invariant

pub returns : goal.returns
returns c =
    let vs = c.args.vs.now in
    let l = c.loop-v in
    let e : l.v-index ≡ length vs = omega arith in
    rw (spaced_are vs) (adds_on (across figure vs) (10 ∷ []) c.args.self.now l.self c.byte.new.self (omega (arith, figures_most vs)) (rw (e, take_all (length vs) vs (omega arith)) at l.invariant) c.byte.ensures)
