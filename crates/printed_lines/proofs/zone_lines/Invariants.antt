use Rattle.arith.specs.Sums.{upto, across}
use Rattle.market.specs.Program.{zone_line}
use Rattle.decimals.specs.Written.{Adds}
use Rattle.certificate_records.specs.Reader.{certificate_in}
use Rattle.printed_lines.proofs.zone_lines.Given as goal

abbrev pub invariant-loop-zone : goal.invariant-loop-zone
invariant-loop-zone l = Adds (across (zone_line (certificate_in l.priced.certificate)) (upto l.zone)) l.initial.text l.text
