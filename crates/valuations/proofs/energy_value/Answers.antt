use mathlib.Core.Path.{◌≡◌, sym, subst}
use mathlib.Core.Bool.{Bool, false}
use borrow.Author.Rules.{rules}
use Rattle.valuations.specs.Values.{StepsValued}
use Rattle.valuations.proofs.OffLine.{off_line_valued}
use Rattle.valuations.proofs.energy_value.Goals as goal

pub returns-then-not-on : goal.returns-then-not-on
returns-then-not-on c =
    let off : c.args.on ≡ false = search rules in
    subst (λ (t : Bool). StepsValued t c.args.offer.steps c.args.nets.prices c.args.energy _) (sym off) (off_line_valued c.args.offer.steps c.args.nets.prices c.args.energy (c.requires.1 off))
