-- The code's fields and files as those of market's Numbers.
use Rattle.std.specs.Prelude.{ℕ, ◌+◌, ◌*◌, length}
use Rattle.market.specs.declared.Version.{Version}
use Rattle.market.specs.Numbers.{Field, u8, u16, u32, i16, i32, FieldsOf, head_fields, zone_fields, resource_fields, case_fields, certificate_head_fields, entry_fields, certificate_fields}
use Rattle.fields.specs.declared.File.{File}
use Rattle.fields.specs.declared.File.TheVariants.{Case, Certificate}
use Rattle.fields.specs.declared.Field as D
use Rattle.fields.specs.declared.Field.TheVariants as K

abbrev pub field_of : D.Field → Field
field_of K.U8 = u8
field_of K.U16 = u16
field_of K.U32 = u32
field_of K.I16 = i16
field_of K.I32 = i32

-- every field of a file but length and version, in order
abbrev pub fields_of : File → FieldsOf
fields_of Case = case_fields
fields_of Certificate = certificate_fields

-- how many numbers a part of a file has: a case's head, each resource of it, a certificate's head, what it says of each resource,
-- and each zone of both
abbrev pub head_numbers : Version → ℕ
head_numbers version = length (head_fields version)

abbrev pub resource_numbers : Version → ℕ
resource_numbers version = length (resource_fields version)

abbrev pub certificate_head_numbers : Version → ℕ
certificate_head_numbers version = length (certificate_head_fields version)

abbrev pub entry_numbers : Version → ℕ
entry_numbers version = length (entry_fields version)

abbrev pub zone_numbers : ℕ
zone_numbers = length zone_fields

-- how many numbers of a case stand before its resources, and before its flowgates
abbrev pub zones_end : Version → ℕ → ℕ
zones_end version zones = head_numbers version + zone_numbers * zones

abbrev pub resources_end : Version → ℕ → ℕ → ℕ
resources_end version resources zones = zones_end version zones + resources * resource_numbers version
