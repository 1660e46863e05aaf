-- The case file: where each field stands (01, 'The case file'). Sizes and places follow from the version.
use Rattle.std.specs.Prelude.{List, ℕ, ◌+◌, ◌*◌, length}
use Rattle.market.specs.Bytes.{u8_at, u16_at, u32_at, i16_at, i32_at}
use Rattle.market.specs.Version.{Version, version_in, ramping, releasing, more}
use Rattle.market.specs.Case.{Case, Resource, has_curve, zoned, zoned_curves, curves, curve_steps, curve_number, Reserve, reserves, regulating_reserve, contingency_reserve, short_term_reserve}

-- multiplier and minutes, a pair for each reserve: contingency, regulating, short-term
abbrev pub pair_place : Reserve → ℕ
pair_place contingency_reserve = 12
pair_place regulating_reserve = 16
pair_place short_term_reserve = 20

-- shares, and then market requirements: regulating, contingency, short-term
abbrev pub share_order : Reserve → ℕ
share_order regulating_reserve = 0
share_order contingency_reserve = 1
share_order short_term_reserve = 2

-- ---- the size of each part in bytes, and the places that follow
-- a step: its width, then its price
abbrev pub step_size : ℕ
step_size = 8

abbrev pub curve_size : ℕ
curve_size = curve_steps * step_size

-- where the market requirements stand: after length, version, counts, demand, pairs and shares; and the curves
abbrev pub requirements_place : Version → ℕ
requirements_place version = 30

abbrev pub curves_place : Version → ℕ
curves_place version = requirements_place version + length reserves * 4

abbrev pub head_size : Version → ℕ
head_size version = curves_place version + length (curves version) * curve_size

-- a requirement for each curve
abbrev pub zone_size : ℕ
zone_size = length zoned_curves * 4

-- inside a resource, where a field stands that is so far from the beginning without what a version may have before it: one byte more
-- after the flags; after the regulating maximum four, the emergency minimum
abbrev pub behind_flags : Version → ℕ → ℕ
behind_flags version offset = more (ramping version) 1 + offset

abbrev pub behind_minimum : Version → ℕ → ℕ
behind_minimum version offset = more (ramping version) 1 + more (releasing version) 4 + offset

abbrev pub resource_size : Version → ℕ
resource_size version = behind_minimum version 150

-- a flowgate's limit
abbrev pub flowgate_head_size : Version → ℕ
flowgate_head_size version = 4

abbrev pub factor_size : ℕ
factor_size = 2

-- with a factor for each resource
abbrev pub flowgate_size : Version → ℕ → ℕ
flowgate_size version resources = flowgate_head_size version + resources * factor_size

abbrev pub zone_place : Version → ℕ → ℕ
zone_place version z = head_size version + z * zone_size

-- after so many zones
abbrev pub resource_place : Version → ℕ → ℕ → ℕ
resource_place version zones i = zone_place version zones + i * resource_size version

-- after so many zones and resources
abbrev pub flowgate_place : Version → ℕ → ℕ → ℕ → ℕ
flowgate_place version resources zones f = resource_place version zones resources + f * flowgate_size version resources

abbrev pub factor_place : Version → ℕ → ℕ → ℕ → ℕ → ℕ
factor_place version resources zones f i = flowgate_place version resources zones f + flowgate_head_size version + i * factor_size

-- the file ends where one more flowgate would stand
abbrev pub case_size : Version → ℕ → ℕ → ℕ → ℕ
case_size version r z f = flowgate_place version r z f

-- a file under this is refused by 1, in every version
abbrev pub least_case_size : ℕ
least_case_size = 170

-- a resource's figures, from its place on
unfoldable pub resource_at : Version → List ℕ → ℕ → Resource
resource_at version b at =
    record {
      kind = u8_at b at;
      zone = u8_at b (at + 1);
      breaker = u8_at b (at + 2);
      status = u8_at b (at + 3);
      trip = u8_at b (at + 4);
      flags = u8_at b (at + 5);
      ramp_flags = more (ramping version) (u8_at b (at + 6));
      output = i32_at b (at + behind_flags version 6);
      economic_min = u32_at b (at + behind_flags version 10);
      economic_max = u32_at b (at + behind_flags version 14);
      regulating_min = u32_at b (at + behind_flags version 18);
      regulating_max = u32_at b (at + behind_flags version 22);
      emergency_min = more (releasing version) (u32_at b (at + behind_flags version 26));
      emergency_max = u32_at b (at + behind_minimum version 26);
      ramp_up = u32_at b (at + behind_minimum version 30);
      ramp_down = u32_at b (at + behind_minimum version 34);
      ramp_rate = u32_at b (at + behind_minimum version 38);
      initial = u32_at b (at + behind_minimum version 42);
      off_line_response = u32_at b (at + behind_minimum version 46);
      off_line_short_term = u32_at b (at + behind_minimum version 50);
      self_schedule = u32_at b (at + behind_minimum version 54);
      regulating_price = u32_at b (at + behind_minimum version 58);
      contingency_price = u32_at b (at + behind_minimum version 62);
      off_line_short_term_price = u32_at b (at + behind_minimum version 66);
      step_width = λ j. u32_at b (at + behind_minimum version 70 + j * step_size);
      step_price = λ j. i32_at b (at + behind_minimum version 74 + j * step_size);
    }

-- of the version that the file is of
abbrev pub resource_in : List ℕ → ℕ → Resource
resource_in b at = resource_at (version_in b) b at

-- the bytes b as a file of this version
unfoldable pub case_as : Version → List ℕ → Case
case_as version b =
    record {
      version = version;
      resources = u8_at b 5;
      zones = u8_at b 6;
      flowgates = u8_at b 7;
      demand = u32_at b 8;
      multiplier = λ reserve. u16_at b (pair_place reserve);
      minutes = λ reserve. u16_at b (pair_place reserve + 2);
      share = λ reserve. u16_at b (24 + share_order reserve * 2);
      requirement = λ reserve. u32_at b (requirements_place version + share_order reserve * 4);
      curve_width = λ k j. more (has_curve version k) (u32_at b (curves_place version + curve_number k * curve_size + j * step_size));
      curve_price = λ k j. more (has_curve version k) (u32_at b (curves_place version + 4 + curve_number k * curve_size + j * step_size));
      zone_requirement = λ z k. more (zoned k) (u32_at b (zone_place version z + curve_number k * 4));
      resource = λ i. resource_at version b (resource_place version (u8_at b 6) i);
      flowgate_limit = λ f. i32_at b (flowgate_place version (u8_at b 5) (u8_at b 6) f);
      shift_factor = λ f i. i16_at b (factor_place version (u8_at b 5) (u8_at b 6) f i);
    }

abbrev pub case_of : List ℕ → Case
case_of b = case_as (version_in b) b
