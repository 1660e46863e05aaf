-- The certificate that a reader's bytes hold.
use Rattle.market.specs.declared.Counts.{Counts}
use Rattle.market.specs.Version.{version_in}
use Rattle.market.specs.Certificate.{Certificate, certificate_of}
use Rattle.certificate_records.specs.declared.SizedCertificate.{SizedCertificate}

-- its version and its three counts
abbrev pub counts_of : SizedCertificate → Counts
counts_of q = record { version = version_in q.bytes.now; resources = q.resources; zones = q.zones; flowgates = q.flowgates }

abbrev pub certificate_in : SizedCertificate → Certificate
certificate_in q = certificate_of q.bytes.now
