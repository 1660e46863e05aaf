-- The program's lines, of records by value (market, specs/Program.antt has the same of a case and a certificate).
use Rattle.market.specs.declared.PerService.{PerService}
use Rattle.market.specs.declared.Kw.{Kw}
use Rattle.std.specs.Prelude.{List, [], ◌∷◌, ◌++◌, ℕ, suc, ℤ, pos}
use Rattle.market.specs.declared.Availability.{Availability}
use Rattle.market.specs.Availability.{on_line_figure}
use Rattle.market.specs.declared.Grains.{Grains}
use Rattle.market.specs.declared.Millicents.{Millicents}
use Rattle.market.specs.declared.Valuation.{Valuation}
use Rattle.market.specs.Program.{decimal, line, cost_word, bound_word, gap_word, zone_word, resource_line, zone_line}
use Rattle.market.specs.Case.{Case}
use Rattle.market.specs.Certificate.{Certificate}
use Rattle.arith.specs.Sums.{upto, across}
use Rattle.prices.specs.declared.ZonePrices.{ZonePrices}
use Rattle.price_list.specs.Numbers.{numbers_of}

abbrev pub value_line : List ℕ → Grains → List ℕ
value_line word value = line word (value.0 ∷ [])

unfoldable pub head_lines : Valuation → List ℕ
head_lines values = value_line cost_word values.cost ++ (value_line bound_word values.bound ++ value_line gap_word values.gap)

-- e g c s o
abbrev pub amount_figures : (PerService Kw) → List ℤ
amount_figures amounts = amounts.energy.0 ∷ amounts.regulation.0 ∷ amounts.contingency.0 ∷ amounts.on_line_short_term.0 ∷ amounts.off_line_short_term.0 ∷ []

unfoldable pub resource_text : ℕ → Availability → (PerService Kw) → Millicents → List ℕ
resource_text i availability amounts price = line (decimal (pos (suc i))) (pos (on_line_figure availability) ∷ (amount_figures amounts ++ (price.0 ∷ [])))

unfoldable pub zone_text : ℕ → ZonePrices → List ℕ
zone_text z prices = line zone_word (pos (suc z) ∷ numbers_of prices)

unfoldable pub schedule_lines : Case → Certificate → List ℕ
schedule_lines c d = across (resource_line c d) (upto c.resources) ++ across (zone_line d) (upto c.zones)
