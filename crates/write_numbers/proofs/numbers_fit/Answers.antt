use mathlib.Core.Path.{refl, sym, ◌∙◌}
use mathlib.Core.List.{List}
use native.Mathlib.Omega.{arith}
use borrow.Author.Rules.{rules}
use Rattle.arith.proofs.Ranges.{all_upto}
use Rattle.market.specs.Numbers.{Field}
use Rattle.fields.specs.Layout.{fields_of}
use Rattle.write_numbers.proofs.Walked.{length_differs, fits_at, fit_whole}
use Rattle.write_numbers.proofs.numbers_fit.Goals as goal

pub returns-then-v-count : goal.returns-then-v-count
returns-then-v-count c = let e = c.count-count.ensures in length_differs _ c.args.v.now (λ h. absurd (omega arith))

pub returns : goal.returns
returns c =
    let n = c.args.n in
    let fs : List Field = fields_of c.args.file n.version n.resources n.zones n.flowgates in
    let e = c.count-count.ensures in
    let same = sym e ∙ sym c.if-v-count.false in
    rw (← (fit_whole fs c.args.v.now same), ← e) (all_upto (fits_at fs c.args.v.now same) _ refl c.all.ensures.ran (λ k b q h. search rules))
