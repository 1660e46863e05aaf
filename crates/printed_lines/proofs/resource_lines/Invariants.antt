use Rattle.arith.specs.Sums.{upto, across}
use Rattle.market.specs.Program.{resource_line}
use Rattle.decimals.specs.Written.{Adds}
use Rattle.prices.specs.PricedCase.{the_case}
use Rattle.certificate_records.specs.Reader.{certificate_in}
use Rattle.printed_lines.proofs.resource_lines.Given as goal

abbrev pub invariant-loop-i : goal.invariant-loop-i
invariant-loop-i l = Adds (across (resource_line (the_case l.priced) (certificate_in l.priced.certificate)) (upto l.i)) l.initial.text l.text
