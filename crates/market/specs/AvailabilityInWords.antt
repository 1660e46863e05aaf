-- On-line, off-line and tripped, MAX, MIN, HI, LO, the upper bounds and spin in the words of 01 ('Before the rows', 'Rows') and 02
-- (requests 2 and 6), with the value of each status bit and flag where it is used.
use Rattle.std.specs.Prelude.{true, false, List, [], ◌∷◌, ◌↔◌, ◌⊎◌, ◌≡◌, ℕ, ◌+◌, ◌*◌, ◌/◌, ◌%◌, ◌≤◌, ◌<◌, ℤ, pos, neg_ℤ, ◌-ℤ◌, ◌≤ℤ◌, ◌<ℤ◌}
use Rattle.arith.specs.Sums.{Each}
use Rattle.market.specs.Case.{Case, Resource, Curve, Reserve, regulating_reserve, contingency_reserve, short_term_reserve, width_of}
use Rattle.market.specs.Availability.{availability_of, on_line}
use Rattle.market.specs.Limits.{max_of, min_of, hi_of, lo_of, self_schedule_in_reach}
use Rattle.market.specs.UpperBounds.{Service, energy, regulation, contingency, on_line_short_term, off_line_short_term, cleared_quantity, provided_quantity, ramp_of, share_of, service_bound, upper_bound}
use Rattle.market.specs.Rows.{spins}
use Rattle.market.specs.Cost.{priced_energy_step, priced_whole, priced_upper_bound}
use Rattle.market.specs.declared.Availability.TheVariants as A

-- the bit of value v is 1, or 0, in n
abbrev pub BitSet : ℕ → ℕ → Type 0
BitSet v n = n / v % 2 ≡ 1

abbrev pub BitClear : ℕ → ℕ → Type 0
BitClear v n = n / v % 2 ≡ 0

abbrev pub OnLine : Resource → Type 0
OnLine r = availability_of r ≡ A.OnLine

abbrev pub OffLine : Resource → Type 0
OffLine r = availability_of r ≡ A.OffLine

abbrev pub Tripped : Resource → Type 0
Tripped r = availability_of r ≡ A.Tripped

-- v is one of them
module _ {A : Type 0} where
  abbrev pub OneOf : List A → A → Type 0
  OneOf [] v = ⊥
  OneOf (v' ∷ vs) v = (v ≡ v') ⊎ OneOf vs v

abbrev pub LeastOf : List ℕ → ℕ → Type 0
LeastOf vs v = Each (λ v'. v ≤ v') vs × OneOf vs v

abbrev pub LeastOfℤ : List ℤ → ℤ → Type 0
LeastOfℤ vs v = Each (λ v'. v ≤ℤ v') vs × OneOf vs v

abbrev pub LargestOf : List ℤ → ℤ → Type 0
LargestOf vs v = Each (λ v'. v' ≤ℤ v) vs × OneOf vs v

-- ---- on-line, off-line, tripped
abbrev pub Closed : Resource → Type 0
Closed r = r.breaker ≡ 1

abbrev pub AtLeast500 : Resource → Type 0
AtLeast500 r = (pos 500 ≤ℤ r.output) ⊎ (r.output ≤ℤ neg_ℤ (pos 500))

pub record OnLineInWords (r : Resource) : Type 0 where
  -- kind 1: output ≥ 500 or ≤ -500, closed, trip minutes above 15
  pub conventional : r.kind ≡ 1 → OnLine r ↔ (AtLeast500 r × Closed r × (15 < r.trip))
  -- kind 2: committed, closed, output > 0
  pub intermittent : r.kind ≡ 2 → OnLine r ↔ (BitSet 1 r.status × Closed r × (pos 0 <ℤ r.output))
  -- kind 3: available, closed, active schedule
  pub external : r.kind ≡ 3 → OnLine r ↔ (BitSet 2 r.status × Closed r × BitSet 4 r.status)
  pub no_other_kind : OnLine r → (1 ≤ r.kind) × (r.kind ≤ 3)

-- 02, request 2
pub record TrippedInWords (r : Resource) : Type 0 where
  -- kind 1, trip minutes of 15 or fewer, whatever breaker and output
  pub tripped : Tripped r ↔ ((r.kind ≡ 1) × (r.trip ≤ 15))
  -- so never kind 2 or 3
  pub of_kind_1 : Tripped r → (r.kind ≡ 2) ⊎ (r.kind ≡ 3) → ⊥
  pub tripped_not_on_line : Tripped r → on_line r ≡ false

-- off-line is what is neither: kind 1, what 01 has off-line for another reason than its trip; kinds 2 and 3, as 01 has it
pub record OffLineInWords (r : Resource) : Type 0 where
  pub neither : OffLine r ↔ (¬ (OnLine r) × ¬ (Tripped r))
  pub conventional : r.kind ≡ 1 → OffLine r ↔ (¬ (AtLeast500 r × Closed r) × (15 < r.trip))
  pub intermittent : r.kind ≡ 2 → OffLine r ↔ ¬ (BitSet 1 r.status × Closed r × (pos 0 <ℤ r.output))
  pub external : r.kind ≡ 3 → OffLine r ↔ ¬ (BitSet 2 r.status × Closed r × BitSet 4 r.status)

-- where two suffice: on-line, or one of the others
abbrev pub NotOnLine : Resource → Type 0
NotOnLine r = OffLine r ⊎ Tripped r

pub record OneOfTwo (r : Resource) : Type 0 where
  pub is_on_line : OnLine r ↔ (on_line r ≡ true)
  pub is_not_on_line : NotOnLine r ↔ (on_line r ≡ false)

-- ---- limits
-- initial - 5 × ramp down, which may be below 0
abbrev pub ramped_down : Resource → ℤ
ramped_down r = pos r.initial -ℤ pos (5 * r.ramp_down)

pub record LimitsInWords (r : Resource) : Type 0 where
  -- on-line: the emergency limit if released, else the regulating one if flag 1, else the economic
  pub max_emergency : OnLine r → BitSet 16 r.flags → max_of r ≡ r.emergency_max
  pub max_regulating : OnLine r → BitClear 16 r.flags → BitSet 1 r.flags → max_of r ≡ r.regulating_max
  pub max_economic : OnLine r → BitClear 16 r.flags → BitClear 1 r.flags → max_of r ≡ r.economic_max
  pub min_emergency : OnLine r → BitSet 64 r.flags → min_of r ≡ pos r.emergency_min
  pub min_regulating : OnLine r → BitClear 64 r.flags → BitSet 1 r.flags → min_of r ≡ pos r.regulating_min
  pub min_economic : OnLine r → BitClear 64 r.flags → BitClear 1 r.flags → min_of r ≡ pos r.economic_min
  pub high_ramped : OnLine r → hi_of r ≡ pos (r.initial + 5 * r.ramp_up)
  -- at least 0; if self-scheduled, the larger of that and the least of HI, MAX and the self-schedule (02, request 6)
  pub low_ramped : OnLine r → BitClear 32 r.flags → LargestOf (pos 0 ∷ ramped_down r ∷ []) (lo_of r)
  pub in_reach : LeastOfℤ (hi_of r ∷ pos (max_of r) ∷ pos r.self_schedule ∷ []) (self_schedule_in_reach r)
  pub low_self_scheduled : OnLine r → BitSet 32 r.flags → LargestOf (pos 0 ∷ ramped_down r ∷ self_schedule_in_reach r ∷ []) (lo_of r)
  -- so one that both reach counts as 01 has it,
  pub low_in_reach : OnLine r → BitSet 32 r.flags → pos r.self_schedule ≤ℤ hi_of r → r.self_schedule ≤ max_of r → LargestOf (pos 0 ∷ ramped_down r ∷ pos r.self_schedule ∷ []) (lo_of r)
  -- and none lifts LO above HI, nor above MAX unless the ramp's floor is above it
  pub low_below_high : lo_of r ≤ℤ hi_of r
  pub low_below_max : ramped_down r ≤ℤ pos (max_of r) → lo_of r ≤ℤ pos (max_of r)
  -- off-line, and tripped: MAX and HI economic maximum, MIN and LO 0
  pub off_line_limits : NotOnLine r → (max_of r ≡ r.economic_max) × (hi_of r ≡ pos r.economic_max) × (min_of r ≡ pos 0) × (lo_of r ≡ pos 0)

-- ---- upper bounds
-- the least of RAMP, SHARE and MAX, with the reserve's own figures
abbrev pub LeastOnLine : Case → Reserve → Resource → ℕ → Type 0
LeastOnLine c reserve r = LeastOf (ramp_of c reserve r ∷ share_of c reserve ∷ max_of r ∷ [])

pub record BoundsInWords (c : Case) (r : Resource) : Type 0 where
  -- on-line: e, the sum of its step widths; g, c, s the least of three, or 0 where the flag is clear; o 0
  pub e_on_line : OnLine r → service_bound c r energy ≡ width_of r.step_width 10
  pub g_flagged : OnLine r → BitSet 1 r.flags → LeastOnLine c regulating_reserve r (service_bound c r regulation)
  pub g_clear : OnLine r → BitClear 1 r.flags → service_bound c r regulation ≡ 0
  pub c_spinning : OnLine r → BitSet 2 r.flags → LeastOnLine c contingency_reserve r (service_bound c r contingency)
  pub c_supplemental : OnLine r → BitSet 8 r.status → LeastOnLine c contingency_reserve r (service_bound c r contingency)
  pub c_clear : OnLine r → BitClear 2 r.flags → BitClear 8 r.status → service_bound c r contingency ≡ 0
  pub s_flagged : OnLine r → BitSet 128 r.flags → LeastOnLine c short_term_reserve r (service_bound c r on_line_short_term)
  pub s_clear : OnLine r → BitClear 128 r.flags → service_bound c r on_line_short_term ≡ 0
  pub o_on_line : OnLine r → service_bound c r off_line_short_term ≡ 0
  -- off-line: e, g, s 0; c and o the least of their limits, or 0 where the flag is clear
  pub e_g_s_off_line : OffLine r → (service_bound c r energy ≡ 0) × (service_bound c r regulation ≡ 0) × (service_bound c r on_line_short_term ≡ 0)
  pub c_off_line : OffLine r → BitSet 4 r.flags → LeastOf (r.economic_max ∷ r.off_line_response ∷ share_of c contingency_reserve ∷ []) (service_bound c r contingency)
  pub c_off_line_clear : OffLine r → BitClear 4 r.flags → service_bound c r contingency ≡ 0
  pub o_off_line : OffLine r → BitSet 8 r.flags → LeastOf (r.economic_max ∷ r.off_line_short_term ∷ []) (service_bound c r off_line_short_term)
  pub o_off_line_clear : OffLine r → BitClear 8 r.flags → service_bound c r off_line_short_term ≡ 0
  -- tripped: all 0
  pub tripped : Tripped r → (s : Service) → service_bound c r s ≡ 0

-- ---- spin is c of an on-line resource with flag 2
pub record SpinInWords (r : Resource) : Type 0 where
  pub spin_flagged : OnLine r → BitSet 2 r.flags → spins r ≡ pos 1
  pub spin_clear : OnLine r → BitClear 2 r.flags → spins r ≡ pos 0
  pub spin_off_line : NotOnLine r → spins r ≡ pos 0

-- a tripped resource's every upper bound is 0, those of its energy steps and of what else is priced of it too
pub record SellsNothing (c : Case) (i : ℕ) : Type 0 where
  pub quantity : (s : Service) → upper_bound c (provided_quantity i s) ≡ 0
  pub energy_step : (j : ℕ) → priced_upper_bound c (priced_energy_step i j) ≡ 0
  pub whole : (s : Service) → priced_upper_bound c (priced_whole i s) ≡ 0

pub record AvailabilityInWords : Type 0 where
  pub on_line : (r : Resource) → OnLineInWords r
  pub tripped : (r : Resource) → TrippedInWords r
  pub off_line : (r : Resource) → OffLineInWords r
  pub one_of_two : (r : Resource) → OneOfTwo r
  pub limits : (r : Resource) → LimitsInWords r
  pub bounds : (c : Case) (r : Resource) → BoundsInWords c r
  pub spin : (r : Resource) → SpinInWords r
  pub bound_of_provided : (c : Case) (i : ℕ) (s : Service) → upper_bound c (provided_quantity i s) ≡ service_bound c (c.resource i) s
  -- a cleared quantity: its curve's widths together
  pub bound_of_cleared : (c : Case) (k : Curve) → upper_bound c (cleared_quantity k) ≡ width_of (c.curve_width k) 4
  pub sells_nothing : (c : Case) (i : ℕ) → Tripped (c.resource i) → SellsNothing c i
