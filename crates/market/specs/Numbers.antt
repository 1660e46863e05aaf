-- Files as lists of numbers: every field but length and version, in order (01, 'How each operation refuses').
use Rattle.market.specs.declared.Refusal.{Refusal}
use Rattle.std.specs.Prelude.{Result}
use Rattle.std.specs.Prelude.{Bool, true, false, ◌&&◌, List, [], ◌∷◌, ◌++◌, ℕ, suc, ◌+◌, ◌*◌, ◌-◌, ◌/◌, ◌%◌, length, get_or, replicate, leb, eqb, ℤ, pos, negsuc, neg_ℤ, nat_abs}
use Rattle.arith.specs.Sums.{total_of, upto, across, when}
use Rattle.market.specs.declared.Refusal.TheVariants.{Counts, FieldRange, StepRule, LimitPair, CertificateLength, CertificateVersion, CertificateSize, NumberList}
use Rattle.market.specs.Bytes.{u8_at, u16_at, u32_at, i16_at, i32_at, within_ℤ}
use Rattle.market.specs.Version.{Version, version_of, version_in, written_version, ramping, releasing}
use Rattle.market.specs.Case.{zoned_curves, curves, energy_steps, curve_steps}
use Rattle.market.specs.CaseFile.{case_of}
use Rattle.market.specs.CaseCheck.{most_resources, most_zones, most_flowgates, length_right, version_right, counts_right, fields_in_range, steps_rule, limits_ordered}
use Rattle.market.specs.UpperBounds.{services}
use Rattle.market.specs.Rows.{limits}
use Rattle.market.specs.Certificate.{least_certificate_size, certificate_size}
use Rattle.market.specs.Refusals.{Finding, unless, first_of, answered, buffer_after}
use Rattle.market.specs.Outcome.{case_grounds, room}

-- ---- fields
pub data Field : Type 0 where
  u8 u16 u32 i16 i32 : Field

abbrev pub field_width : Field → ℕ
field_width u8 = 1
field_width u16 = 2
field_width u32 = 4
field_width i16 = 2
field_width i32 = 4

abbrev pub field_low : Field → ℤ
field_low u8 = pos 0
field_low u16 = pos 0
field_low u32 = pos 0
field_low i16 = neg_ℤ (pos 32768)
field_low i32 = neg_ℤ (pos 2147483648)

abbrev pub field_high : Field → ℤ
field_high u8 = pos 255
field_high u16 = pos 65535
field_high u32 = pos 4294967295
field_high i16 = pos 32767
field_high i32 = pos 2147483647

-- the number that stands at a place
unfoldable pub field_at : Field → List ℕ → ℕ → ℤ
field_at u8 b at = pos (u8_at b at)
field_at u16 b at = pos (u16_at b at)
field_at u32 b at = pos (u32_at b at)
field_at i16 b at = i16_at b at
field_at i32 b at = i32_at b at

-- two's complement: a number below 0 is written as itself plus the range
abbrev pub unsigned : ℕ → ℤ → ℕ
unsigned range (pos n) = n
unsigned range (negsuc n) = range - suc n

abbrev pub u16_bytes : ℕ → List ℕ
u16_bytes n = (n / 256 % 256) ∷ (n % 256) ∷ []

abbrev pub u32_bytes : ℕ → List ℕ
u32_bytes n = (n / 16777216 % 256) ∷ (n / 65536 % 256) ∷ (n / 256 % 256) ∷ (n % 256) ∷ []

unfoldable pub field_bytes : Field → ℤ → List ℕ
field_bytes u8 v = (unsigned 256 v % 256) ∷ []
field_bytes u16 v = u16_bytes (unsigned 65536 v)
field_bytes u32 v = u32_bytes (unsigned 4294967296 v)
field_bytes i16 v = u16_bytes (unsigned 65536 v)
field_bytes i32 v = u32_bytes (unsigned 4294967296 v)

-- ---- lists of fields
unfoldable pub numbers_at : List Field → List ℕ → ℕ → List ℤ
numbers_at [] b at = []
numbers_at (field ∷ fields) b at = field_at field b at ∷ numbers_at fields b (at + field_width field)

unfoldable pub bytes_of : List Field → List ℤ → List ℕ
bytes_of [] vs = []
bytes_of (field ∷ fields) [] = []
bytes_of (field ∷ fields) (v ∷ vs) = field_bytes field v ++ bytes_of fields vs

-- as many numbers as fields, each fitting its field
unfoldable pub numbers_fit : List Field → List ℤ → Bool
numbers_fit [] [] = true
numbers_fit [] (v ∷ vs) = false
numbers_fit (field ∷ fields) [] = false
numbers_fit (field ∷ fields) (v ∷ vs) = within_ℤ (field_low field) (field_high field) v && numbers_fit fields vs

-- ---- the fields of the two files, after length and version
unfoldable pub times : ℕ → List Field → List Field
times n fields = across (λ n'. fields) (upto n)

-- counts and demand, the reserves' figures, and the curves' steps
abbrev pub head_fields : Version → List Field
head_fields version = u8 ∷ u8 ∷ u8 ∷ u32 ∷ replicate 9 u16 ++ replicate (3 + length (curves version) * (curve_steps * 2)) u32

-- a number for each curve of a zone, and of the market
abbrev pub zone_fields : List Field
zone_fields = replicate (length zoned_curves) u32

abbrev pub curve_fields : Version → List Field
curve_fields version = replicate (length (curves version)) u32

abbrev pub resource_fields : Version → List Field
resource_fields version =
    replicate 6 u8 ++ (when (ramping version) (u8 ∷ [])
    ++ (i32 ∷ replicate 4 u32 ++ (when (releasing version) (u32 ∷ [])
    ++ (replicate 11 u32 ++ times energy_steps (u32 ∷ i32 ∷ [])))))

abbrev pub flowgate_fields : Version → ℕ → List Field
flowgate_fields version resources = i32 ∷ replicate resources i16

unfoldable pub case_fields : Version → ℕ → ℕ → ℕ → List Field
case_fields version r z f = head_fields version ++ (times z zone_fields ++ (times r (resource_fields version) ++ times f (flowgate_fields version r)))

abbrev pub certificate_head_fields : Version → List Field
certificate_head_fields version = u8 ∷ u8 ∷ u8 ∷ curve_fields version ++ (i32 ∷ curve_fields version)

-- a resource's amounts, and the prices of its rows
abbrev pub entry_fields : Version → List Field
entry_fields version = replicate (length (services version) + length (limits version)) u32

unfoldable pub certificate_fields : Version → ℕ → ℕ → ℕ → List Field
certificate_fields version r z f = certificate_head_fields version ++ (times z zone_fields ++ (times f (u32 ∷ []) ++ times r (entry_fields version)))

-- length, the version v, fields
unfoldable pub file_of : ℕ → List Field → List ℤ → List ℕ
file_of v fields vs = u32_bytes (1 + total_of field_width fields) ++ (v ∷ bytes_of fields vs)

-- ---- read into numbers: a case 1 to 7, a certificate 8, 9, 3, 11; then 15
abbrev pub FieldsOf : Type 0
FieldsOf = Version → ℕ → ℕ → ℕ → List Field

unfoldable pub numbers_of : FieldsOf → List ℕ → List ℤ
numbers_of fields b = numbers_at (fields (version_in b) (u8_at b 5) (u8_at b 6) (u8_at b 7)) b 5

abbrev pub case_numbers : List ℕ → List ℤ
case_numbers = numbers_of case_fields

abbrev pub certificate_numbers : List ℕ → List ℤ
certificate_numbers = numbers_of certificate_fields

unfoldable pub certificate_file_grounds : List ℕ → List Finding
certificate_file_grounds q =
    unless (length_right least_certificate_size q) CertificateLength
    ∷ unless (version_right q) CertificateVersion
    ∷ unless (counts_right (u8_at q 5) (u8_at q 6) (u8_at q 7)) Counts
    ∷ unless (eqb (length q) (certificate_size (version_in q) (u8_at q 5) (u8_at q 6) (u8_at q 7))) CertificateSize
    ∷ []

-- with a lent buffer of n numbers
unfoldable pub read_case_grounds : List ℕ → ℕ → List Finding
read_case_grounds b n = case_grounds b ++ (room (length (case_numbers b)) n ∷ [])

unfoldable pub read_certificate_grounds : List ℕ → ℕ → List Finding
read_certificate_grounds q n = certificate_file_grounds q ++ (room (length (certificate_numbers q)) n ∷ [])

unfoldable pub read_case : List ℕ → ℕ → Result ℕ Refusal
read_case b n = answered (length (case_numbers b)) (first_of (read_case_grounds b n))

unfoldable pub read_certificate : List ℕ → ℕ → Result ℕ Refusal
read_certificate q n = answered (length (certificate_numbers q)) (first_of (read_certificate_grounds q n))

unfoldable pub read_case_buffer : List ℕ → List ℤ → List ℤ
read_case_buffer b old = buffer_after (first_of (read_case_grounds b (length old))) (case_numbers b) old

unfoldable pub read_certificate_buffer : List ℕ → List ℤ → List ℤ
read_certificate_buffer q old = buffer_after (first_of (read_certificate_grounds q (length old))) (certificate_numbers q) old

-- ---- write from numbers: 16 if under three; 3; 16, list length wrong or a number not fitting its field
abbrev pub count_in : List ℤ → ℕ → ℕ
count_in vs n = nat_abs (get_or vs n (pos 0))

-- R, Z and F are the first three numbers
unfoldable pub counts_in_range : List ℤ → Bool
counts_in_range vs =
    within_ℤ (pos 1) (pos most_resources) (get_or vs 0 (pos 0)) && within_ℤ (pos 1) (pos most_zones) (get_or vs 1 (pos 0)) && within_ℤ (pos 0) (pos most_flowgates) (get_or vs 2 (pos 0))

-- in a file of version v
unfoldable pub fields_for : FieldsOf → ℕ → List ℤ → List Field
fields_for fields v vs = fields (version_of v) (count_in vs 0) (count_in vs 1) (count_in vs 2)

unfoldable pub file_for : FieldsOf → ℕ → List ℤ → List ℕ
file_for fields v vs = file_of v (fields_for fields v vs) vs

unfoldable pub list_grounds : FieldsOf → ℕ → List ℤ → List Finding
list_grounds fields v vs =
    unless (leb 3 (length vs)) NumberList
    ∷ unless (counts_in_range vs) Counts
    ∷ unless (numbers_fit (fields_for fields v vs) vs) NumberList
    ∷ []

abbrev pub case_file : List ℤ → List ℕ
case_file = file_for case_fields written_version

abbrev pub certificate_file : List ℤ → List ℕ
certificate_file = file_for certificate_fields written_version

-- 5, 6, 7, of a case's bytes
abbrev pub field_grounds : List ℕ → List Finding
field_grounds b =
    unless (fields_in_range (case_of b)) FieldRange
    ∷ unless (steps_rule (case_of b)) StepRule
    ∷ unless (limits_ordered (case_of b)) LimitPair
    ∷ []

-- for a case 5, 6, 7, of the file that is to be written; then 15, with a lent buffer of n bytes
unfoldable pub write_case_grounds : List ℤ → ℕ → List Finding
write_case_grounds vs n = list_grounds case_fields written_version vs ++ (field_grounds (case_file vs) ++ (room (length (case_file vs)) n ∷ []))

unfoldable pub write_certificate_grounds : List ℤ → ℕ → List Finding
write_certificate_grounds vs n = list_grounds certificate_fields written_version vs ++ (room (length (certificate_file vs)) n ∷ [])

unfoldable pub write_case : List ℤ → ℕ → Result ℕ Refusal
write_case vs n = answered (length (case_file vs)) (first_of (write_case_grounds vs n))

unfoldable pub write_certificate : List ℤ → ℕ → Result ℕ Refusal
write_certificate vs n = answered (length (certificate_file vs)) (first_of (write_certificate_grounds vs n))

unfoldable pub write_case_buffer : List ℤ → List ℕ → List ℕ
write_case_buffer vs old = buffer_after (first_of (write_case_grounds vs (length old))) (case_file vs) old

unfoldable pub write_certificate_buffer : List ℤ → List ℕ → List ℕ
write_certificate_buffer vs old = buffer_after (first_of (write_certificate_grounds vs (length old))) (certificate_file vs) old
