-- What a function of this crate asks of the bytes: that those it reads are there, and that the counts it is passed are the file's
-- (01, 'The case file'). `CaseBytes`, of a whole case, gives each of these (proofs/Places.antt).
use Rattle.std.specs.Prelude.{◌≡◌, List, ℕ}
use Rattle.wire.specs.Within.{Within}
pub use Rattle.wire.specs.CaseBytes.{CaseBytes}
use Rattle.market.specs.Bytes.{u8_at}
use Rattle.market.specs.Version.{version_in}
use Rattle.market.specs.CaseFile.{zone_size, resource_size, flowgate_size, zone_place, resource_place, flowgate_place}

abbrev pub ZoneIn : List ℕ → ℕ → Type 0
ZoneIn b z = Within b (zone_place (version_in b) z) zone_size

-- resource i of a case that counts z zones
abbrev pub ResourceIn : List ℕ → ℕ → ℕ → Type 0
ResourceIn b z i = (z ≡ u8_at b 6) × Within b (resource_place (version_in b) z i) (resource_size (version_in b))

-- flowgate f of a case that counts r resources and z zones
pub record FlowgateIn (b : List ℕ) (r z f : ℕ) : Type 0 where
  pub resources : r ≡ u8_at b 5
  pub zones : z ≡ u8_at b 6
  pub within : Within b (flowgate_place (version_in b) r z f) (flowgate_size (version_in b) r)
