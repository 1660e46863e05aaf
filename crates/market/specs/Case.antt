-- A case: the figures of one dispatch interval, whatever file they came from (01, 'What is carried', 'The case file').
-- Resources, zones, flowgates and steps count from 0 here. Power is in kW, prices are in cents per MWh.
use Rattle.std.specs.Prelude.{Bool, true, List, [], ◌∷◌, ◌++◌, ℕ, zero, suc, ◌+◌, ℤ}
use Rattle.arith.specs.Sums.{when}
use Rattle.market.specs.Version.{Version, ramping}
-- the demand curves, each with its reserve rows
pub use Rattle.market.specs.declared.Curve.{Curve}
pub use Rattle.market.specs.declared.Curve.TheVariants.{Operating as operating, RegulatingPlusSpinning as regulating_plus_spinning, Regulating as regulating, ShortTerm as short_term}
-- the three reserves that have a multiplier, minutes, a largest share and a market requirement
pub use Rattle.market.specs.declared.Reserve.{Reserve}
pub use Rattle.market.specs.declared.Reserve.TheVariants.{Regulating as regulating_reserve, Contingency as contingency_reserve, ShortTerm as short_term_reserve}

-- all that a version may have
abbrev pub all_curves : List Curve
all_curves = operating ∷ regulating_plus_spinning ∷ regulating ∷ short_term ∷ []

-- which of them a version has, and which have a row and a requirement in each zone
abbrev pub has_curve : Version → Curve → Bool
has_curve version operating = true
has_curve version regulating_plus_spinning = true
has_curve version regulating = true
has_curve version short_term = true

abbrev pub zoned : Curve → Bool
zoned operating = true
zoned regulating_plus_spinning = true
zoned regulating = true
zoned short_term = true

-- those of a zone, and those of a version, in the file's order: behind them what ramping adds, nothing so far
abbrev pub zoned_curves : List Curve
zoned_curves = operating ∷ regulating_plus_spinning ∷ regulating ∷ short_term ∷ []

abbrev pub curves : Version → List Curve
curves version = zoned_curves ++ when (ramping version) []

abbrev pub curve_number : Curve → ℕ
curve_number operating = 0
curve_number regulating_plus_spinning = 1
curve_number regulating = 2
curve_number short_term = 3

abbrev pub reserves : List Reserve
reserves = regulating_reserve ∷ contingency_reserve ∷ short_term_reserve ∷ []

pub record Resource : Type 0 where
  -- 1 conventional, 2 intermittent, 3 external asynchronous
  pub kind : ℕ
  -- from 1 on
  pub zone : ℕ
  -- 1 closed, 0 open
  pub breaker : ℕ
  pub status : ℕ
  -- minutes since trip, 255 none
  pub trip : ℕ
  pub flags : ℕ
  -- 0 in a file that has none (02, request 3)
  pub ramp_flags : ℕ
  -- estimated
  pub output : ℤ
  pub economic_min : ℕ
  pub economic_max : ℕ
  pub regulating_min : ℕ
  pub regulating_max : ℕ
  pub emergency_min : ℕ
  pub emergency_max : ℕ
  -- kW a minute
  pub ramp_up : ℕ
  pub ramp_down : ℕ
  pub ramp_rate : ℕ
  pub initial : ℕ
  pub off_line_response : ℕ
  pub off_line_short_term : ℕ
  pub self_schedule : ℕ
  pub regulating_price : ℕ
  pub contingency_price : ℕ
  pub off_line_short_term_price : ℕ
  -- of an energy step
  pub step_width : ℕ → ℕ
  pub step_price : ℕ → ℤ

pub record Case : Type 0 where
  -- of the file that it came from
  pub version : Version
  pub resources : ℕ
  pub zones : ℕ
  pub flowgates : ℕ
  pub demand : ℕ
  -- thousandths
  pub multiplier : Reserve → ℕ
  pub minutes : Reserve → ℕ
  -- thousandths
  pub share : Reserve → ℕ
  pub requirement : Reserve → ℕ
  pub curve_width : Curve → ℕ → ℕ
  pub curve_price : Curve → ℕ → ℕ
  pub zone_requirement : ℕ → Curve → ℕ
  pub resource : ℕ → Resource
  -- net of other flows
  pub flowgate_limit : ℕ → ℤ
  -- of a flowgate and a resource, in thousandths
  pub shift_factor : ℕ → ℕ → ℤ

abbrev pub energy_steps : ℕ
energy_steps = 10

abbrev pub curve_steps : ℕ
curve_steps = 4

-- the first n widths together
unfoldable pub width_of : (ℕ → ℕ) → ℕ → ℕ
width_of w zero = 0
width_of w (suc n) = width_of w n + w n
