use mathlib.Core.Path.{◌≡◌, refl}
use mathlib.Core.Bool.{false}
use borrow.Author.Rules.{rules}
use Rattle.charges.proofs.OffLine.{off_line_charges}
use Rattle.charges.proofs.write_energy.Goals as goal

pub returns-then-not-on : goal.returns-then-not-on
returns-then-not-on c =
    let off : c.args.on ≡ false = search rules in
    rw (c.copy_from_slice.ensures.after, off, off_line_charges c.args.nets.prices c.args.offer.steps c.args.energy (c.requires.0.1 off)) refl
