-- The case that a reader's bytes hold.
use Rattle.market.specs.Case.{Case}
use Rattle.market.specs.CaseFile.{case_of}
use Rattle.case_reader.specs.declared.SizedCase.{SizedCase}

abbrev pub case_in : SizedCase → Case
case_in c = case_of c.bytes.now
