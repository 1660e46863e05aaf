-- The LMPs of all resources as numbers in a list.
use Rattle.std.specs.Prelude.{◌≡◌, List, ℕ, ◌<◌, ◌≤◌, ℤ, pos, length, get_or}
use Rattle.market.specs.CaseFile.{case_of}
use Rattle.market.specs.Certificate.{certificate_of}
use Rattle.market.specs.Prices.{lmp_of}

-- those of r resources, from the list's front on
pub record Lmps (b q : List ℕ) (r : ℕ) (lmps : List ℤ) : Type 0 where
  pub room : r ≤ length lmps
  pub each : (i : ℕ) → i < r → get_or lmps i (pos 0) ≡ lmp_of (case_of b) (certificate_of q).price i
