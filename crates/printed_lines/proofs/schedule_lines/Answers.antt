use Rattle.std.proofs.Common.{arith, ◌*◌}
use Rattle.decimals.proofs.Front.{adds_on, room_left}
use Rattle.case_records.proofs.Places.{resources_is, zones_is}
use Rattle.market.specs.Program.{resource_line, zone_line}
use Rattle.arith.specs.Sums.{upto, across}
use Rattle.printed_lines.proofs.Lines.{resources_most, schedule_is}
use Rattle.printed_lines.specs.Room.{most_resource_line, most_zone_line}
use Rattle.prices.specs.PricedCase.{the_case}
use Rattle.certificate_records.specs.Reader.{certificate_in}
use Rattle.printed_lines.proofs.schedule_lines.Goals as goal

pub resource_lines-requires : goal.resource_lines-requires
resource_lines-requires c = let h = c.args.priced.now.prices_stand.case_bytes in omega (arith, h.counts.most_resources)

pub zone_lines-requires : goal.zone_lines-requires
zone_lines-requires c =
    let p = c.args.priced.now in
    let r = p.case.resources in
    let h = p.prices_stand.case_bytes in
    room_left (across (resource_line (the_case p) (certificate_in p.certificate)) (upto r)) c.args.text.now c.resource_lines.new.text (most_resource_line * r) (most_zone_line * p.case.zones) (omega (arith, h.counts.most_resources, h.counts.most_zones))
    (resources_most (the_case p) (certificate_in p.certificate) r) c.resource_lines.ensures

pub returns : goal.returns
returns c =
    let p = c.args.priced.now in
    let r = p.case.resources in
    let z = p.case.zones in
    let cs = the_case p in
    let k = certificate_in p.certificate in
    let h = p.prices_stand.case_bytes in
    rw (← (schedule_is cs k r z (resources_is h) (zones_is h)))
    (adds_on (across (resource_line cs k) (upto r)) (across (zone_line k) (upto z)) c.args.text.now c.resource_lines.new.text c.zone_lines.new.text (omega (arith, resources_most cs k r, h.counts.most_resources)) c.resource_lines.ensures c.zone_lines.ensures)
