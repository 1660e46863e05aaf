-- What is known of a case and a certificate past grounds 1 to 11, and past 1 to 13.
use Rattle.market.specs.declared.Refusal.{Refusal}
use Rattle.std.specs.Prelude.{Result, Ok, List, ◌≡◌, ℕ}
use Rattle.market.specs.declared.Counts.{Counts}
use Rattle.market.specs.CaseFile.{case_of}
use Rattle.market.specs.Records.{counts_in}
use Rattle.market.specs.Outcome.{Valid}
use Rattle.case_records.specs.Places.{CaseBytes}
use Rattle.certificate_records.specs.CertificateBytes.{CertificateBytes}
use Rattle.capabilities.specs.Kept.{Kept}
use Rattle.capabilities.specs.declared.Capability.{Capability}

-- 1 to 11 have passed with these counts: a valid case, and a certificate of its size
pub record FiledWith (b q : List ℕ) (n : Counts) : Type 0 where
  pub counts : n ≡ counts_in (case_of b)
  pub case_bytes : CaseBytes b n.resources n.zones n.flowgates
  pub certificate_bytes : CertificateBytes q n.resources n.zones n.flowgates
  pub valid : Valid b

-- what is decided of each resource is kept, where the stages have passed
pub record Decided (b : List ℕ) (stage : Result Counts Refusal) (kept : List Capability) : Type 0 where
  pub known : (n : Counts) → stage ≡ Ok n → Kept (case_of b) n.resources kept
