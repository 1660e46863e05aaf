-- The versions of the two files, and the features that set them apart (02, requests 3, 7, 10 and 12). Version 1, that of document 01, is
-- the only one that is known. Only lists and places ask for the version: the table of the rows is the same in all of them.
use Rattle.std.specs.Prelude.{Result, Ok, Err, Bool, true, false, cond, List, ℕ, eqb}
use Rattle.market.specs.Bytes.{u8_at}
pub use Rattle.market.specs.declared.version.Version.{Version}
pub use Rattle.market.specs.declared.version.Version.TheVariants.{First as first}
use Rattle.market.specs.declared.version.UnknownVersion.{UnknownVersion}

-- 2, and 9 of a certificate
abbrev pub known : ℕ → Bool
known v = eqb v 1

-- of a version's number; one that is not known is read as the nearest
unfoldable pub version_of : ℕ → Version
version_of v = first

abbrev pub known_as : Bool → ℕ → Result Version UnknownVersion
known_as true v = Ok (version_of v)
known_as false v = Err (record { 0 = v })

-- of a version's number, if it is known
abbrev pub known_version : ℕ → Result Version UnknownVersion
known_version v = known_as (known v) v

-- of a file, whose fifth byte is its version
abbrev pub version_in : List ℕ → Version
version_in b = version_of (u8_at b 4)

-- of the files that are written
abbrev pub written_version : ℕ
written_version = 1

-- ---- what a version has, beside what each has
-- up and down ramp capability
abbrev pub ramping : Version → Bool
ramping first = false

-- battery plants
abbrev pub storing : Version → Bool
storing first = false

-- a minimum that can be released in an emergency
abbrev pub releasing : Version → Bool
releasing first = true

-- a number that counts where the test passes, else 0
abbrev pub more : Bool → ℕ → ℕ
more t n = cond t n 0
