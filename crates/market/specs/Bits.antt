-- A resource's status bits and flags (01, 'The case file').
use Rattle.std.specs.Prelude.{Result, Ok, Err, Bool, true, false, ℕ, ◌/◌, ◌%◌, leb, eqb}
use Rattle.market.specs.declared.Status.{Status}
use Rattle.market.specs.declared.UnknownStatus.{UnknownStatus}

-- the bit of value v is set in n
abbrev pub has : ℕ → ℕ → Bool
has v n = eqb (n / v % 2) 1

-- ---- status
abbrev pub committed : ℕ → Bool
committed = has 1

abbrev pub available : ℕ → Bool
available = has 2

abbrev pub active_schedule : ℕ → Bool
active_schedule = has 4

abbrev pub on_line_supplemental : ℕ → Bool
on_line_supplemental = has 8

-- status bits above 8 are zero
abbrev pub status_if : Bool → ℕ → Result Status UnknownStatus
status_if true n = Ok (record { 0 = n })
status_if false n = Err (record { 0 = n })

abbrev pub status_of : ℕ → Result Status UnknownStatus
status_of n = status_if (leb n 15) n

-- the bits up to 8 of any byte
abbrev pub status_bits : ℕ → ℕ
status_bits n = n % 16

-- ---- flags
abbrev pub regulating_flag : ℕ → Bool
regulating_flag = has 1

abbrev pub spinning_flag : ℕ → Bool
spinning_flag = has 2

abbrev pub off_line_supplemental_flag : ℕ → Bool
off_line_supplemental_flag = has 4

abbrev pub off_line_short_term_flag : ℕ → Bool
off_line_short_term_flag = has 8

abbrev pub emergency_maximum_flag : ℕ → Bool
emergency_maximum_flag = has 16

abbrev pub self_scheduled_flag : ℕ → Bool
self_scheduled_flag = has 32

abbrev pub emergency_minimum_flag : ℕ → Bool
emergency_minimum_flag = has 64

abbrev pub on_line_short_term_flag : ℕ → Bool
on_line_short_term_flag = has 128
