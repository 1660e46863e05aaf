-- The program: how it parts its input, and the text that it prints (01, 'How each operation refuses', 'Worked interval').
use Rattle.market.specs.declared.Valuation.{Valuation}
use Rattle.std.specs.Prelude.{Result, Ok, Err}
use Rattle.std.specs.Prelude.{true, false, List, [], ◌∷◌, ◌++◌, map, ℕ, zero, suc, ◌+◌, ◌/◌, ◌%◌, length, take, drop, leb, ltb, ℤ, pos, negsuc}
use Rattle.arith.specs.Sums.{upto, across}
use Rattle.market.specs.declared.Refusal.{Refusal}
use Rattle.market.specs.declared.Refusal.TheVariants.{InputLength}
use Rattle.market.specs.Bytes.{u32_at}
use Rattle.market.specs.Case.{Case}
use Rattle.market.specs.CaseFile.{case_of}
use Rattle.market.specs.Availability.{availability_of, on_line_figure}
use Rattle.market.specs.UpperBounds.{Service, energy, regulation, contingency, on_line_short_term, off_line_short_term, provided_quantity}
use Rattle.market.specs.Certificate.{Certificate, certificate_of}
use Rattle.market.specs.Prices.{lmp_of, zone_prices}
use Rattle.market.specs.Refusals.{number_of, place_of, Finding, clear, holds, unless}
use Rattle.market.specs.Outcome.{grounds, outcome}

-- ---- text
-- n in decimal, in front of the bytes of tail; fuel bounds its digits
unfoldable pub digits_on : ℕ → ℕ → List ℕ → List ℕ
digits_on zero n tail = tail
digits_on (suc fuel) n tail = elim (ltb n 10) [ true ↦ (48 + n) ∷ tail | false ↦ digits_on fuel (n / 10) ((48 + n % 10) ∷ tail) ]

-- every number of 64 bits has at most 20 digits
unfoldable pub decimal : ℤ → List ℕ
decimal (pos n) = digits_on 20 n []
decimal (negsuc n) = 45 ∷ digits_on 20 (suc n) []

-- a space before each number, and a line feed
unfoldable pub spaced : List ℤ → List ℕ
spaced [] = 10 ∷ []
spaced (v ∷ vs) = 32 ∷ (decimal v ++ spaced vs)

-- a word, numbers, a line feed
abbrev pub line : List ℕ → List ℤ → List ℕ
line word vs = word ++ spaced vs

-- 'cost', 'bound', 'gap', 'zone', 'refused'
abbrev pub cost_word : List ℕ
cost_word = 99 ∷ 111 ∷ 115 ∷ 116 ∷ []

abbrev pub bound_word : List ℕ
bound_word = 98 ∷ 111 ∷ 117 ∷ 110 ∷ 100 ∷ []

abbrev pub gap_word : List ℕ
gap_word = 103 ∷ 97 ∷ 112 ∷ []

abbrev pub zone_word : List ℕ
zone_word = 122 ∷ 111 ∷ 110 ∷ 101 ∷ []

abbrev pub refused_word : List ℕ
refused_word = 114 ∷ 101 ∷ 102 ∷ 117 ∷ 115 ∷ 101 ∷ 100 ∷ []

-- what a resource's line shows: a list of its own, as quantities that are added later are not printed (02)
abbrev pub printed_services : List Service
printed_services = energy ∷ regulation ∷ contingency ∷ on_line_short_term ∷ off_line_short_term ∷ []

-- number, on-line, e g c s o, LMP
unfoldable pub resource_line : Case → Certificate → ℕ → List ℕ
resource_line c d i =
    line (decimal (pos (suc i)))
    (pos (on_line_figure (availability_of (c.resource i))) ∷ (map (λ s. pos (d.amount (provided_quantity i s))) printed_services ++ (lmp_of c d.price i ∷ [])))

-- number, four prices
unfoldable pub zone_line : Certificate → ℕ → List ℕ
zone_line d z = line zone_word (pos (suc z) ∷ zone_prices d.price z)

-- a place, if there is one
abbrev pub place_figures : ℕ → List ℤ
place_figures zero = []
place_figures (suc at) = pos (suc at) ∷ []

unfoldable pub refusal_line : Refusal → List ℕ
refusal_line why = line refused_word (pos (number_of why) ∷ place_figures (place_of why))

unfoldable pub report : Case → Certificate → Result Valuation Refusal → List ℕ
report c d (Err why) = refusal_line why
report c d (Ok values) =
    line cost_word (values.cost.0 ∷ [])
    ++ (line bound_word (values.bound.0 ∷ [])
    ++ (line gap_word (values.gap.0 ∷ [])
    ++ (across (resource_line c d) (upto c.resources) ++ across (zone_line d) (upto c.zones))))

-- ---- input: the case is the first 4 + length bytes, or all if fewer; the rest is the certificate
abbrev pub case_in : List ℕ → List ℕ
case_in input = take (4 + u32_at input 0) input

abbrev pub certificate_in : List ℕ → List ℕ
certificate_in input = drop (4 + u32_at input 0) input

abbrev pub most_input : ℕ
most_input = 32768

-- 17 comes before all others
abbrev pub input_ground : List ℕ → Finding
input_ground input = unless (leb (length input) most_input) InputLength

abbrev pub program_grounds : List ℕ → List Finding
program_grounds input = input_ground input ∷ grounds (case_in input) (certificate_in input)

abbrev pub printed_of : List ℕ → Finding → List ℕ
printed_of input clear = report (case_of (case_in input)) (certificate_of (certificate_in input)) (outcome (case_in input) (certificate_in input))
printed_of input (holds why) = refusal_line why

unfoldable pub printed : List ℕ → List ℕ
printed input = printed_of input (input_ground input)
