-- What a case whose prices are in range holds: both files' bytes, the case, the prices of its rows, the amounts of its quantities.
use Rattle.std.specs.Prelude.{List, ℕ}
use Rattle.market.specs.Case.{Case}
use Rattle.market.specs.Certificate.{Prices}
use Rattle.market.specs.UpperBounds.{Schedule}
use Rattle.case_reader.specs.Reader.{case_in}
use Rattle.certificate_records.specs.Reader.{certificate_in}
use Rattle.prices.specs.declared.priced_case.PricedCase.{PricedCase}

abbrev pub case_bytes : PricedCase → List ℕ
case_bytes p = p.case.bytes.now

abbrev pub certificate_bytes : PricedCase → List ℕ
certificate_bytes p = p.certificate.bytes.now

abbrev pub the_case : PricedCase → Case
the_case p = case_in p.case

abbrev pub the_prices : PricedCase → Prices
the_prices p = (certificate_in p.certificate).price

abbrev pub the_amounts : PricedCase → Schedule
the_amounts p = (certificate_in p.certificate).amount
