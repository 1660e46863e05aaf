use mathlib.Core.Path.{refl}
use native.Mathlib.Omega.{arith}
use Rattle.arith.proofs.Buffers.{write_on}
use Rattle.charges.specs.Terms.{curve_charges}
use Rattle.charges.proofs.Families.{numbers_count}
use Rattle.charges.proofs.write_pair.Goals as goal

pub returns : goal.returns
returns c =
    let first = c.write_curve in
    let second = c.write_curve-2 in
    write_on (curve_charges c.args.first) (curve_charges c.args.second) c.args.out.now first.new.out second.new.out 4 4 4 (numbers_count _ 4) refl (omega arith) first.ensures second.ensures
