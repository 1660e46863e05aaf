-- A file that has passed the grounds of reading but 15: its counts are in their ranges, and its fields fill it.
use Rattle.std.specs.Prelude.{List, ◌≡◌, ℕ, ◌+◌, length}
use Rattle.arith.specs.Sums.{total_of}
use Rattle.market.specs.declared.Version.{Version}
use Rattle.market.specs.Version.{version_in}
use Rattle.market.specs.Bytes.{u8_at}
use Rattle.market.specs.CaseCheck.{CountsWithin}
use Rattle.market.specs.Numbers.{field_width}
use Rattle.fields.specs.declared.File.{File}
use Rattle.fields.specs.Layout.{fields_of}

-- the bytes b are of this version, and count r resources, z zones and f flowgates
pub record FileBytes (file : File) (b : List ℕ) (version : Version) (r z f : ℕ) : Type 0 where
  pub version_is : version ≡ version_in b
  pub resources : r ≡ u8_at b 5
  pub zones : z ≡ u8_at b 6
  pub flowgates : f ≡ u8_at b 7
  pub counts : CountsWithin r z f
  pub filled : length b ≡ 5 + total_of field_width (fields_of file version r z f)
