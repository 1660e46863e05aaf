-- The sizes of files of version 1 and of their lists with the paper's figures (01, 'The case file', 'Rows', 'How each operation refuses'). The
-- definitions add them up from their parts.
use Rattle.std.specs.Prelude.{◌≡◌, ℕ, ◌+◌, ◌*◌}
use Rattle.market.specs.Version.{first}
use Rattle.market.specs.Case.{Case}
use Rattle.market.specs.CaseFile.{case_size}
use Rattle.market.specs.Rows.{row_count}
use Rattle.market.specs.Certificate.{certificate_size}
use Rattle.market.specs.Charges.{charge_count}
use Rattle.market.specs.Prices.{price_count}

pub record SizesInWords : Type 0 where
  -- in bytes
  pub case_size : (r z f : ℕ) → case_size first r z f ≡ 170 + z * 16 + r * 154 + f * (4 + r * 2)
  pub certificate_size : (r z f : ℕ) → certificate_size first r z f ≡ 44 + z * 16 + f * 4 + r * 40
  -- in numbers
  pub row_count_lem : (c : Case) → c.version ≡ first → row_count c ≡ 5 + 4 * c.zones + c.flowgates + 5 * c.resources
  pub price_count_lem : (c : Case) → price_count c ≡ c.resources + 4 * c.zones
  pub charge_count_lem : (c : Case) → c.version ≡ first → charge_count c ≡ 21 + 4 * c.zones + c.flowgates + 19 * c.resources
