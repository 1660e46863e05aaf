-- A case file past refusals 1 to 4: its counts are in their ranges, and its size is what they need.
use Rattle.std.specs.Prelude.{◌≡◌, ℕ, List, length}
use Rattle.market.specs.Bytes.{u8_at}
use Rattle.market.specs.Version.{version_in}
use Rattle.market.specs.CaseFile.{case_size}
use Rattle.market.specs.CaseCheck.{CountsWithin}

-- the bytes b count r resources, z zones and f flowgates
pub record CaseBytes (b : List ℕ) (r z f : ℕ) : Type 0 where
  pub resources : r ≡ u8_at b 5
  pub zones : z ≡ u8_at b 6
  pub flowgates : f ≡ u8_at b 7
  pub counts : CountsWithin r z f
  pub size : length b ≡ case_size (version_in b) r z f
