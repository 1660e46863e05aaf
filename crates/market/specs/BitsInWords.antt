-- What each constant of `Status` and `Flags` stands for: the bit of its name (01, 'The case file').
use Rattle.std.specs.Prelude.{◌≡◌, ℕ}
use Rattle.market.specs.Bits.{has, committed, available, active_schedule, on_line_supplemental, regulating_flag, spinning_flag, off_line_supplemental_flag, off_line_short_term_flag, emergency_maximum_flag, self_scheduled_flag, emergency_minimum_flag, on_line_short_term_flag}
use Rattle.market.specs.declared.TheConstants.Status as S
use Rattle.market.specs.declared.TheConstants.Flags as F

pub record StatusInWords (n : ℕ) : Type 0 where
  pub is_committed : has S.COMMITTED.0 n ≡ committed n
  pub is_available : has S.AVAILABLE.0 n ≡ available n
  pub has_active_schedule : has S.ACTIVE_SCHEDULE.0 n ≡ active_schedule n
  pub has_on_line_supplemental : has S.ON_LINE_SUPPLEMENTAL.0 n ≡ on_line_supplemental n

pub record FlagsInWords (n : ℕ) : Type 0 where
  pub is_regulating : has F.REGULATING.0 n ≡ regulating_flag n
  pub is_spinning : has F.SPINNING.0 n ≡ spinning_flag n
  pub is_off_line_supplemental : has F.OFF_LINE_SUPPLEMENTAL.0 n ≡ off_line_supplemental_flag n
  pub is_off_line_short_term : has F.OFF_LINE_SHORT_TERM.0 n ≡ off_line_short_term_flag n
  pub has_emergency_maximum : has F.EMERGENCY_MAXIMUM.0 n ≡ emergency_maximum_flag n
  pub is_self_scheduled : has F.SELF_SCHEDULED.0 n ≡ self_scheduled_flag n
  pub has_emergency_minimum : has F.EMERGENCY_MINIMUM.0 n ≡ emergency_minimum_flag n
  pub is_on_line_short_term : has F.ON_LINE_SHORT_TERM.0 n ≡ on_line_short_term_flag n
