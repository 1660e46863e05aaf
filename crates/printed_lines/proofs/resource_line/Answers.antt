use Rattle.market.specs.CaseFile.{case_of}
use Rattle.printed_lines.proofs.Lines.{resource_line_is}
use Rattle.prices.specs.PricedCase.{case_bytes}
use Rattle.certificate_records.specs.Reader.{certificate_in}
use Rattle.printed_lines.proofs.resource_line.Goals as goal

pub returns : goal.returns
returns c = let w = c.resource_text in let p = c.lmp-price in let a = c.amounts-a in let o = c.availability_of-availability in let x = c.resource-record in let b = (case_bytes c.args.priced.now) in let i = c.args.i in rw (← (resource_line_is (case_of b) (certificate_in c.args.priced.now.certificate) i o.result a.result p.result (o.ensures ((case_of b).resource i) x.ensures) a.ensures p.ensures)) w.ensures
