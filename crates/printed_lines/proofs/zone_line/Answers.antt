use Rattle.printed_lines.proofs.Lines.{zone_line_is}
use Rattle.prices.specs.PricedCase.{the_case}
use Rattle.certificate_records.specs.Reader.{certificate_in}
use Rattle.printed_lines.proofs.zone_line.Goals as goal

pub returns : goal.returns
returns c = let zp = c.zone_prices-p in let zt = c.zone_text in rw (← (zone_line_is (the_case c.args.priced.now) (certificate_in c.args.priced.now.certificate) c.args.zone zp.result zp.ensures)) zt.ensures
