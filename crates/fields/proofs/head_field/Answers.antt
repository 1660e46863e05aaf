use native.Mathlib.Omega.{arith}
use Rattle.fields.proofs.Tables.{head_later}
use Rattle.fields.proofs.head_field.Goals as goal

pub returns : goal.returns
returns c = head_later c.args.version c.args.k (omega arith) c.requires
