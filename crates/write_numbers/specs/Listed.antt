-- Numbers that fit their fields, and a list of numbers that has passed 16 and 3: its counts are in their ranges, and each
-- number fits its field.
use Rattle.std.specs.Prelude.{true, List, ◌≡◌, ℕ, ℤ}
use Rattle.market.specs.declared.Version.{Version}
use Rattle.market.specs.Version.{version_of, written_version}
use Rattle.market.specs.Bytes.{within_ℤ}
use Rattle.market.specs.CaseCheck.{CountsWithin}
use Rattle.market.specs.Refusals.{clear, first_of}
use Rattle.market.specs.Numbers.{Field, field_low, field_high, numbers_fit, count_in, list_grounds}
use Rattle.fields.specs.declared.File.{File}
use Rattle.fields.specs.Layout.{fields_of}

-- the number v fits the field
pub record Fits (field : Field) (v : ℤ) : Type 0 where
  pub fits : within_ℤ (field_low field) (field_high field) v ≡ true

-- the list vs of the numbers of a file that is written, for r resources, z zones and f flowgates
pub record Listed (file : File) (vs : List ℤ) (version : Version) (r z f : ℕ) : Type 0 where
  pub version_is : version ≡ version_of written_version
  pub resources : r ≡ count_in vs 0
  pub zones : z ≡ count_in vs 1
  pub flowgates : f ≡ count_in vs 2
  pub counts : CountsWithin r z f
  pub fit : numbers_fit (fields_of file version r z f) vs ≡ true
  pub none_holds : first_of (list_grounds (fields_of file) written_version vs) ≡ clear
