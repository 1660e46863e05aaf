-- What is known of a case and a certificate once 12, and once 13, has been tested.
use Rattle.market.specs.declared.PerService.{PerService}
use Rattle.market.specs.declared.Kw.{Kw}
use Rattle.std.specs.Prelude.{List, ℕ, ◌≤◌, nat_abs, T}
use Rattle.arith.specs.Sums.{all}
use Rattle.market.specs.CaseFile.{case_of}
use Rattle.market.specs.Rows.{rows, Bounded}
use Rattle.market.specs.Certificate.{certificate_of}
use Rattle.market.specs.Outcome.{Valid, price_right}
use Rattle.case_records.specs.Places.{CaseBytes}
use Rattle.certificate_records.specs.CertificateBytes.{CertificateBytes}

-- a valid case of r resources, z zones and f flowgates, and a certificate of that size with its prices in range
pub record PricesStand (b q : List ℕ) (r z f : ℕ) : Type 0 where
  pub case_bytes : CaseBytes b r z f
  pub certificate_bytes : CertificateBytes q r z f
  pub valid : Valid b
  pub in_range : T (all (price_right (certificate_of q)) (rows (case_of b)))

-- and every quantity within its bound
pub record Standing (b q : List ℕ) (r z f : ℕ) : Type 0 where
  pub prices : PricesStand b q r z f
  pub bounded : Bounded (case_of b) (certificate_of q).amount

-- amounts of a resource, each within its bound and so at most 2,000,000 kW
pub record SmallAmounts (amounts : (PerService Kw)) : Type 0 where
  pub energy : nat_abs amounts.energy.0 ≤ 2000000
  pub regulation : nat_abs amounts.regulation.0 ≤ 2000000
  pub contingency : nat_abs amounts.contingency.0 ≤ 2000000
  pub on_line_short_term : nat_abs amounts.on_line_short_term.0 ≤ 2000000
  pub off_line_short_term : nat_abs amounts.off_line_short_term.0 ≤ 2000000
