-- The wrong turns that 01 names ('Worked interval'), each shut out by a law.
use Rattle.std.specs.Prelude.{◌≡◌, true, false, ℕ, suc, ◌*◌, ◌<◌, ◌≤◌, pos, ◌*ℤ◌, ◌-ℤ◌}
use Rattle.market.specs.Bits.{emergency_maximum_flag, emergency_minimum_flag}
use Rattle.market.specs.Case.{Case, Resource, Reserve, regulating_plus_spinning}
use Rattle.market.specs.Availability.{on_line}
use Rattle.market.specs.Limits.{max_of, min_of}
use Rattle.market.specs.UpperBounds.{contingency, ramp_of, share_of}
use Rattle.market.specs.Rows.{in_reserve, balance_row, flowgate_row}
use Rattle.market.specs.Certificate.{Prices}
use Rattle.market.specs.Prices.{lmp_of}

pub record WrongTurns : Type 0 where
  -- counting off-line contingency as spinning
  pub off_line_never_spins : (r : Resource) → on_line r ≡ false → in_reserve r regulating_plus_spinning contingency ≡ pos 0
  -- regulating limits before emergency ones
  pub emergency_maximum_first : (r : Resource) → on_line r ≡ true → emergency_maximum_flag r.flags ≡ true → max_of r ≡ r.emergency_max
  pub emergency_minimum_first : (r : Resource) → on_line r ≡ true → emergency_minimum_flag r.flags ≡ true → min_of r ≡ pos r.emergency_min
  -- a flowgate's sign in the LMP
  pub flowgate_sign : (c : Case) (y : Prices) (i : ℕ) → c.flowgates ≡ 1 → lmp_of c y i ≡ y balance_row -ℤ y (flowgate_row 0) *ℤ c.shift_factor 0 i
  -- dividing by the multiplier before multiplying: RAMP is the exact quotient, rounded down, and so is SHARE
  pub ramp_rounded_once : (c : Case) (reserve : Reserve) (r : Resource) → 0 < c.multiplier reserve →
      (ramp_of c reserve r * c.multiplier reserve ≤ r.ramp_rate * c.minutes reserve * 1000) × (r.ramp_rate * c.minutes reserve * 1000 < suc (ramp_of c reserve r) * c.multiplier reserve)
  pub share_rounded_once : (c : Case) (reserve : Reserve) → (share_of c reserve * 1000 ≤ c.share reserve * c.requirement reserve) × (c.share reserve * c.requirement reserve < suc (share_of c reserve) * 1000)
