-- What the readers of a certificate's entries ask of its bytes.
use Rattle.std.specs.Prelude.{List, ◌≡◌, ℕ, length}
use Rattle.market.specs.Bytes.{u8_at}
use Rattle.market.specs.Version.{version_in}
use Rattle.market.specs.CaseCheck.{CountsWithin}
use Rattle.market.specs.Certificate.{certificate_size}

-- r, z and f are the file's counts, within their ranges, and its size is what they need
pub record CertificateBytes (q : List ℕ) (r z f : ℕ) : Type 0 where
  pub resources_are : u8_at q 5 ≡ r
  pub zones_are : u8_at q 6 ≡ z
  pub flowgates_are : u8_at q 7 ≡ f
  pub counts : CountsWithin r z f
  pub sized : length q ≡ certificate_size (version_in q) r z f
