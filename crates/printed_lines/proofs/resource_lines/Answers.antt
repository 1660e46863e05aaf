use Rattle.std.proofs.Common.{arith}
use Rattle.market.specs.Program.{resource_line}
use Rattle.prices.specs.PricedCase.{the_case}
use Rattle.certificate_records.specs.Reader.{certificate_in}
use Rattle.printed_lines.specs.Room.{most_resource_line}
use Rattle.printed_lines.proofs.Lines.{resource_most, next_room, next_line, no_line}
use Rattle.printed_lines.proofs.resource_lines.Goals as goal

pub loop-i-init : goal.loop-i-init
loop-i-init c =
    let p = c.args.priced.now in
    no_line (resource_line (the_case p) (certificate_in p.certificate)) most_resource_line (resource_most (the_case p) (certificate_in p.certificate)) c.args.text.now

pub resource_line-requires : goal.resource_line-requires
resource_line-requires c =
    let p = c.args.priced.now in
    let l = c.loop-i in
    (omega arith, next_room (resource_line (the_case p) (certificate_in p.certificate)) most_resource_line (resource_most (the_case p) (certificate_in p.certificate)) c.args.text.now l.text l.i p.case.resources (omega arith) c.requires l.invariant)

pub loop-i-preserved : goal.loop-i-preserved
loop-i-preserved c =
    let p = c.args.priced.now in
    let l = c.loop-i in
    next_line (resource_line (the_case p) (certificate_in p.certificate)) most_resource_line (resource_most (the_case p) (certificate_in p.certificate)) c.args.text.now l.text c.resource_line.new.text l.i p.case.resources (omega arith) c.requires l.invariant c.resource_line.ensures
