-- How long the program's lines may get, by counting each number at its longest.
use Rattle.std.specs.Prelude.{ℕ, ◌+◌, ◌*◌}
use Rattle.market.specs.CaseCheck.{most_resources, most_zones}
use Rattle.decimals.specs.Written.{most_decimal, most_figures}

-- a word and a number
abbrev pub most_value_line : ℕ → ℕ
most_value_line word = word + most_figures 1

-- 'cost', 'bound', 'gap'
abbrev pub most_head : ℕ
most_head = most_value_line 4 + most_value_line 5 + most_value_line 3

-- number, on-line, e g c s o, LMP
abbrev pub most_resource_line : ℕ
most_resource_line = most_decimal + most_figures 7

-- 'zone', number, four prices
abbrev pub most_zone_line : ℕ
most_zone_line = 4 + most_figures 5

-- 'refused', number, place
abbrev pub most_refusal : ℕ
most_refusal = 7 + most_figures 2

abbrev pub most_schedule : ℕ
most_schedule = most_resource_line * most_resources + most_zone_line * most_zones

-- of any input: MOST_TEXT in the crate `report`
abbrev pub most_text : ℕ
most_text = most_head + most_schedule
