use Rattle.market.specs.Numbers.{times}
use Rattle.arith.specs.Sums.{across, upto}
use Rattle.fields.proofs.Tables.{resource_entry}
use Rattle.fields.proofs.resource_field.Goals as goal

pub returns : goal.returns
unfolding times across upto
returns c = resource_entry c.args.version c.args.k
