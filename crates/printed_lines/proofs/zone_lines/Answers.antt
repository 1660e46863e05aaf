use Rattle.std.proofs.Common.{arith}
use Rattle.market.specs.Program.{zone_line}
use Rattle.prices.specs.PricedCase.{the_case}
use Rattle.certificate_records.specs.Reader.{certificate_in}
use Rattle.printed_lines.specs.Room.{most_zone_line}
use Rattle.printed_lines.proofs.Lines.{zone_most, next_room, next_line, no_line}
use Rattle.printed_lines.proofs.zone_lines.Goals as goal

pub loop-zone-init : goal.loop-zone-init
loop-zone-init c =
    let p = c.args.priced.now in
    no_line (zone_line (certificate_in p.certificate)) most_zone_line (zone_most (the_case p) (certificate_in p.certificate)) c.args.text.now

pub zone_line-requires : goal.zone_line-requires
zone_line-requires c =
    let p = c.args.priced.now in
    let l = c.loop-zone in
    (omega arith, next_room (zone_line (certificate_in p.certificate)) most_zone_line (zone_most (the_case p) (certificate_in p.certificate)) c.args.text.now l.text l.zone p.case.zones (omega arith) c.requires l.invariant)

pub loop-zone-preserved : goal.loop-zone-preserved
loop-zone-preserved c =
    let p = c.args.priced.now in
    let l = c.loop-zone in
    next_line (zone_line (certificate_in p.certificate)) most_zone_line (zone_most (the_case p) (certificate_in p.certificate)) c.args.text.now l.text c.zone_line.new.text l.zone p.case.zones (omega arith) c.requires l.invariant c.zone_line.ensures
