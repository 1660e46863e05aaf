-- The sizes of files and lists have the paper's figures.
use mathlib.Core.Path.{◌≡◌, refl, ◌∙◌, ap}
use Prim.Native.Nat.{ℕ, ◌+◌, ◌*◌}
use native.Mathlib.Omega.{arith}
use Rattle.market.specs.Version.{Version, first}
use Rattle.market.specs.Rows.{row_count_of}
use Rattle.market.specs.Charges.{charge_count_of}
use Rattle.market.specs.SizesInWords.{SizesInWords}

rows_of_first : (r z f : ℕ) → row_count_of first r z f ≡ 5 + 4 * z + f + 5 * r
rows_of_first r z f = omega arith

charges_of_first : (r z f : ℕ) → charge_count_of first r z f ≡ 21 + 4 * z + f + 19 * r
charges_of_first r z f = omega arith

pub sizes_in_words : SizesInWords
sizes_in_words =
    record {
      case_size = λ r z f. refl;
      certificate_size = λ r z f. refl;
      row_count_lem = λ c e. ap (λ (version : Version). row_count_of version c.resources c.zones c.flowgates) e ∙ rows_of_first c.resources c.zones c.flowgates;
      price_count_lem = λ c. omega arith;
      charge_count_lem = λ c e. ap (λ (version : Version). charge_count_of version c.resources c.zones c.flowgates) e ∙ charges_of_first c.resources c.zones c.flowgates;
    }
