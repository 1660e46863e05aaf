-- The constants of status bits and flags are the bits of their names.
use mathlib.Core.Path.{refl}
use Prim.Native.Nat.{ℕ}
use Rattle.market.specs.BitsInWords.{StatusInWords, FlagsInWords}

pub status_in_words : (n : ℕ) → StatusInWords n
status_in_words n = record { is_committed = refl; is_available = refl; has_active_schedule = refl; has_on_line_supplemental = refl }

pub flags_in_words : (n : ℕ) → FlagsInWords n
flags_in_words n =
    record {
      is_regulating = refl;
      is_spinning = refl;
      is_off_line_supplemental = refl;
      is_off_line_short_term = refl;
      has_emergency_maximum = refl;
      is_self_scheduled = refl;
      has_emergency_minimum = refl;
      is_on_line_short_term = refl;
    }
