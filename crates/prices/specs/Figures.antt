-- A flowgate's pass over the resources' figures: what it makes of each, and what it asks of them.
use Rattle.std.specs.Prelude.{List, ℕ, ◌<◌, ◌≤◌, ℤ, pos, ◌-ℤ◌, ◌*ℤ◌, length, get_or}
use Rattle.market.specs.Case.{Case}
use Rattle.market.specs.CaseFile.{case_of}
use Rattle.case_records.specs.Places.{CaseBytes}
use Rattle.units.specs.Room.{SumRoom, ProductRoom}

-- the figure of resource i, less price × shift factor of flowgate g
abbrev pub less_flowgate : Case → ℕ → ℤ → List ℤ → ℕ → ℤ
less_flowgate c g price figures i = get_or figures i (pos 0) -ℤ price *ℤ c.shift_factor g i

-- there is a figure for each resource, and product and difference fit
pub record FlowgateRoom (b : List ℕ) (r z f g : ℕ) (price : ℤ) (figures : List ℤ) : Type 0 where
  pub case_bytes : CaseBytes b r z f
  pub counted : g < f
  pub long : r ≤ length figures
  pub product : (i : ℕ) → i < r → ProductRoom price ((case_of b).shift_factor g i)
  pub difference : (i : ℕ) → i < r → SumRoom (get_or figures i (pos 0)) (price *ℤ (case_of b).shift_factor g i)
