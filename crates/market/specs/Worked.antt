-- (a) to (l) of the worked interval, one list under one statement; LO of a self-schedule out of reach; each refusal number on its
-- own ground; and the order of prices, charges and a printed line (01, 'Worked interval', 'How each operation refuses',
-- 'Certificate, cost, bound, charges'; 02, request 6).
use Rattle.market.specs.declared.Refusal.{Refusal}
use Rattle.std.specs.Prelude.{Result}
use Rattle.std.specs.Prelude.{Bool, true, false, ◌&&◌, List, [], ◌∷◌, ◌++◌, map, ℕ, ◌+◌, T, take, ℤ, pos, neg_ℤ}
use Rattle.std.specs.Int.Signed.{le_z}
use Rattle.arith.specs.Sums.{all}
use Rattle.market.specs.declared.Availability.{Availability}
use Rattle.market.specs.declared.CheckResult.{CheckResult}
use Rattle.market.specs.declared.Answer.{Answer}
use Rattle.market.specs.declared.Count.{Count}
use Rattle.market.specs.Version.{first}
use Rattle.market.specs.Case.{regulating_reserve}
use Rattle.market.specs.CaseFile.{case_of}
use Rattle.market.specs.Availability.{availability_of, on_line_figure}
use Rattle.market.specs.Limits.{max_of, hi_of, lo_of}
use Rattle.market.specs.UpperBounds.{ramp_of}
use Rattle.market.specs.Certificate.{amounts_place, certificate_of}
use Rattle.market.specs.Charges.{charges}
use Rattle.market.specs.Prices.{lmp_of, price_list}
use Rattle.market.specs.Refusals.{case_number_of, result_of, answer_of, count_of}
use Rattle.market.specs.Outcome.{case_answer, outcome, price_answer, charge_answer}
use Rattle.market.specs.Numbers.{u16_bytes, u32_bytes, case_numbers, certificate_numbers, read_case, read_certificate, write_case, write_certificate}
use Rattle.market.specs.Program.{resource_line, printed}
use Rattle.market.specs.Interval.{worked_k, worked_q, zeros, change, minus32, resource_of_k, demand_to, output_to, trip_to, kind2_committed, economic_max_to, self_schedule_to, self_scheduled_to, energy_to, row1_to, high_to, gated_k, gated_q}

-- what the definitions give, and what 01 says
pub record Example : Type 0 where
  pub given : List ℤ
  pub says : List ℤ

abbrev pub as_numbers : List ℕ → List ℤ
as_numbers = map pos

-- refusal, place, cost, bound, gap
abbrev pub figures : CheckResult → List ℤ
figures result = pos result.refusal ∷ pos result.place ∷ result.cost ∷ result.bound ∷ result.gap ∷ []

abbrev pub run : List ℕ → List ℕ → List ℤ
run b q = figures (result_of (outcome b q))

abbrev pub accepted : ℕ → ℕ → ℕ → List ℤ
accepted cost bound gap = pos 0 ∷ pos 0 ∷ pos cost ∷ pos bound ∷ pos gap ∷ []

abbrev pub refused : ℕ → ℕ → List ℤ
refused n at = pos n ∷ pos at ∷ pos 0 ∷ pos 0 ∷ pos 0 ∷ []

abbrev pub availability_in : List ℕ → Availability
availability_in b = availability_of ((case_of b).resource 0)

-- what is printed for on-line
abbrev pub is_on_line : List ℕ → ℤ
is_on_line b = pos (on_line_figure (availability_in b))

-- the text of (a), to the byte
abbrev pub text_of_k : List ℕ
text_of_k =
    99 ∷ 111 ∷ 115 ∷ 116 ∷ 32 ∷ 49 ∷ 52 ∷ 48 ∷ 48 ∷ 48 ∷ 48 ∷ 48 ∷ 48 ∷ 48 ∷ 48 ∷ 48 ∷ 48 ∷ 10
    ∷ 98 ∷ 111 ∷ 117 ∷ 110 ∷ 100 ∷ 32 ∷ 49 ∷ 52 ∷ 48 ∷ 48 ∷ 48 ∷ 48 ∷ 48 ∷ 48 ∷ 48 ∷ 48 ∷ 48 ∷ 48 ∷ 10
    ∷ 103 ∷ 97 ∷ 112 ∷ 32 ∷ 48 ∷ 10
    ∷ 49 ∷ 32 ∷ 49 ∷ 32 ∷ 54 ∷ 48 ∷ 48 ∷ 48 ∷ 48 ∷ 32 ∷ 48 ∷ 32 ∷ 48 ∷ 32 ∷ 48 ∷ 32 ∷ 48 ∷ 32 ∷ 51 ∷ 48 ∷ 48 ∷ 48 ∷ 48 ∷ 48 ∷ 48 ∷ 10
    ∷ 122 ∷ 111 ∷ 110 ∷ 101 ∷ 32 ∷ 49 ∷ 32 ∷ 48 ∷ 32 ∷ 48 ∷ 32 ∷ 48 ∷ 32 ∷ 48 ∷ 10 ∷ []

-- (a) to (l), in order; (i) by what is printed, and in `WorkedTrips` by name: tripped at 15, on-line at 16
abbrev pub intervals : List Example
intervals =
    record { given = as_numbers (printed (worked_k ++ worked_q)); says = as_numbers text_of_k }
    ∷ record { given = run worked_k (row1_to 2500000 worked_q); says = accepted 140000000000 130000000000 10000000000 }
    ∷ record { given = run worked_k (row1_to 3500000 worked_q); says = accepted 140000000000 120000000000 20000000000 }
    ∷ record { given = run (demand_to 65000 worked_k) (energy_to 65000 (row1_to 3500000 (high_to 500000 worked_q))); says = accepted 155000000000 155000000000 0 }
    ∷ record { given = run (demand_to 65001 worked_k) (energy_to 65001 worked_q); says = refused 14 13 }
    ∷ record { given = run worked_k (energy_to 59999 worked_q); says = refused 14 1 }
    ∷ record { given = run (output_to (u32_bytes 499) worked_k) worked_q; says = refused 13 5 }
    ∷ record { given = is_on_line (output_to (u32_bytes 500) worked_k) ∷ is_on_line (output_to (minus32 500) worked_k) ∷ []; says = pos 1 ∷ pos 1 ∷ [] }
    ∷ record { given = is_on_line (trip_to 15 worked_k) ∷ is_on_line (trip_to 16 worked_k) ∷ []; says = pos 0 ∷ pos 1 ∷ [] }
    ∷ record { given = is_on_line (output_to (u32_bytes 1) (kind2_committed worked_k)) ∷ is_on_line (output_to (u32_bytes 0) (kind2_committed worked_k)) ∷ []; says = pos 1 ∷ pos 0 ∷ [] }
    ∷ record { given = pos (let c = case_of (change 16 (u16_bytes 700) worked_k) in ramp_of c regulating_reserve (c.resource 0)) ∷ []; says = pos 42857 ∷ [] }
    ∷ record { given = lmp_of (case_of gated_k) (certificate_of gated_q).price 0 ∷ []; says = pos 3012000 ∷ [] }
    ∷ []

abbrev pub high_max_low : List ℕ → List ℤ
high_max_low b = let r = (case_of b).resource 0 in hi_of r ∷ pos (max_of r) ∷ lo_of r ∷ []

-- K's resource is at 50,000, and its ramp's floor is 35,000: HI, MAX and LO (02, request 6)
abbrev pub self_schedules : List Example
self_schedules =
    -- the unit of the request: HI is the least
    record { given = high_max_low (self_scheduled_to 80000 worked_k); says = pos 65000 ∷ pos 100000 ∷ pos 65000 ∷ [] }
    -- MAX is the least; the self-schedule is
    ∷ record { given = high_max_low (self_scheduled_to 80000 (economic_max_to 60000 worked_k)); says = pos 65000 ∷ pos 60000 ∷ pos 60000 ∷ [] }
    ∷ record { given = high_max_low (self_scheduled_to 55000 worked_k); says = pos 65000 ∷ pos 100000 ∷ pos 55000 ∷ [] }
    -- the floor lies above the self-schedule; above MAX
    ∷ record { given = high_max_low (self_scheduled_to 30000 worked_k); says = pos 65000 ∷ pos 100000 ∷ pos 35000 ∷ [] }
    ∷ record { given = high_max_low (self_scheduled_to 80000 (economic_max_to 34000 worked_k)); says = pos 65000 ∷ pos 34000 ∷ pos 35000 ∷ [] }
    -- without the flag; off-line
    ∷ record { given = high_max_low (self_schedule_to 80000 worked_k); says = pos 65000 ∷ pos 100000 ∷ pos 35000 ∷ [] }
    ∷ record { given = high_max_low (self_scheduled_to 80000 (output_to (u32_bytes 499) worked_k)); says = pos 100000 ∷ pos 100000 ∷ pos 0 ∷ [] }
    -- (d) and (a) of the unit of the request: the one is accepted as K's is, the other breaks e ≥ LO
    ∷ record { given = run (self_scheduled_to 80000 (demand_to 65000 worked_k)) (energy_to 65000 (row1_to 3500000 (high_to 500000 worked_q))); says = accepted 155000000000 155000000000 0 }
    ∷ record { given = run (self_scheduled_to 80000 worked_k) worked_q; says = refused 14 14 }
    ∷ []

abbrev pub numbered : Result (Unit {0}) Refusal → List ℤ
numbered answer = pos (case_number_of answer) ∷ []

abbrev pub answered : Answer → List ℤ
answered answer = pos answer.refusal ∷ []

abbrev pub counted : Count → List ℤ
counted answer = pos answer.refusal ∷ pos answer.count ∷ []

-- a case with 5, 6 and 7, and with 6 and 7
abbrev pub six_and_seven : List ℕ
six_and_seven = change (resource_of_k + 86) (u32_bytes 1999) (change (resource_of_k + 10) (u32_bytes 100001) worked_k)

abbrev pub five_to_seven : List ℕ
five_to_seven = demand_to 128000001 six_and_seven

-- each number from 1 to 17 on its own ground, and the first of several
abbrev pub refusals : List Example
refusals =
    record { given = numbered (case_answer worked_k); says = pos 0 ∷ [] }
    ∷ record { given = numbered (case_answer (take 169 worked_k)); says = pos 1 ∷ [] }
    ∷ record { given = numbered (case_answer (change 0 (u32_bytes 165) (take 169 worked_k))) ++ numbered (case_answer (change 0 (u32_bytes 166) (take 170 worked_k))); says = pos 1 ∷ pos 4 ∷ [] }
    ∷ record { given = numbered (case_answer (change 4 (0 ∷ []) worked_k)); says = pos 2 ∷ [] }
    ∷ record { given = numbered (case_answer (change 6 (9 ∷ []) worked_k)); says = pos 3 ∷ [] }
    ∷ record { given = numbered (case_answer (change 0 (u32_bytes 337) worked_k ++ (0 ∷ []))); says = pos 4 ∷ [] }
    ∷ record { given = numbered (case_answer (demand_to 128000001 worked_k)); says = pos 5 ∷ [] }
    ∷ record { given = numbered (case_answer (change (resource_of_k + 86) (u32_bytes 1999) worked_k)); says = pos 6 ∷ [] }
    ∷ record { given = numbered (case_answer (change (resource_of_k + 10) (u32_bytes 100001) worked_k)); says = pos 7 ∷ [] }
    ∷ record { given = numbered (case_answer five_to_seven) ++ numbered (case_answer six_and_seven); says = pos 5 ∷ pos 6 ∷ [] }
    ∷ record { given = run worked_k (take 43 worked_q); says = refused 8 0 }
    ∷ record { given = run worked_k (change 0 (u32_bytes 39) (take 43 worked_q)) ++ run worked_k (change 0 (u32_bytes 40) (take 44 worked_q)); says = refused 8 0 ++ refused 11 0 }
    ∷ record { given = run worked_k (change 4 (0 ∷ []) worked_q); says = refused 9 0 }
    ∷ record { given = run worked_k (change 5 (2 ∷ []) worked_q); says = refused 10 0 }
    ∷ record { given = run worked_k (change 0 (u32_bytes 97) worked_q ++ (0 ∷ [])); says = refused 11 0 }
    ∷ record { given = run worked_k (row1_to 400000001 worked_q); says = refused 12 0 }
    ∷ record { given = run worked_k (change 24 (minus32 400000001) (energy_to 100001 worked_q)); says = refused 12 0 }
    ∷ record { given = run worked_k (change 24 (minus32 400000000) (energy_to 100001 worked_q)); says = refused 13 5 }
    ∷ record { given = answered (answer_of (price_answer worked_k worked_q 5)) ++ answered (answer_of (price_answer worked_k worked_q 4)); says = pos 0 ∷ pos 15 ∷ [] }
    ∷ record { given = answered (answer_of (charge_answer worked_k worked_q 44)) ++ answered (answer_of (charge_answer worked_k worked_q 43)); says = pos 0 ∷ pos 15 ∷ [] }
    ∷ record { given = counted (count_of (read_case worked_k 95)) ++ counted (count_of (read_case worked_k 94)); says = pos 0 ∷ pos 95 ∷ pos 15 ∷ pos 0 ∷ [] }
    ∷ record { given = counted (count_of (read_certificate worked_q 26)) ++ counted (count_of (read_certificate (change 5 (65 ∷ []) worked_q) 26)); says = pos 0 ∷ pos 26 ∷ pos 3 ∷ pos 0 ∷ [] }
    ∷ record { given = counted (count_of (write_case (case_numbers worked_k) 340)) ++ counted (count_of (write_case (take 94 (case_numbers worked_k)) 340)); says = pos 0 ∷ pos 340 ∷ pos 16 ∷ pos 0 ∷ [] }
    ∷ record { given = counted (count_of (write_certificate (certificate_numbers worked_q) 99)) ++ counted (count_of (write_certificate (pos 1 ∷ pos 1 ∷ []) 99)); says = pos 15 ∷ pos 0 ∷ pos 16 ∷ pos 0 ∷ [] }
    ∷ record { given = as_numbers (printed (zeros 32769)); says = as_numbers (114 ∷ 101 ∷ 102 ∷ 117 ∷ 115 ∷ 101 ∷ 100 ∷ 32 ∷ 49 ∷ 55 ∷ 10 ∷ []) }
    ∷ []

-- rows 2 to 9 at 1, 10, 100, 1000, 2, 20, 200, 2000, row 1 at 2,500,000; g, c, s, o 1, 1, 1, 2
abbrev pub priced_q : List ℕ
priced_q =
    change 28 (u32_bytes 1 ++ u32_bytes 10 ++ u32_bytes 100 ++ u32_bytes 1000 ++ u32_bytes 2 ++ u32_bytes 20 ++ u32_bytes 200 ++ u32_bytes 2000)
    (change 64 (u32_bytes 1 ++ u32_bytes 1 ++ u32_bytes 1 ++ u32_bytes 2) (row1_to 2500000 worked_q))

-- LMP, then the zone's regulating, spinning, supplemental, short-term
abbrev pub prices_in_order : List ℤ
prices_in_order = pos 2500000 ∷ pos 333 ∷ pos 33 ∷ pos 3 ∷ pos 3000 ∷ []

-- rows; ten steps, g, c, s, o; sixteen curve steps
abbrev pub charges_in_order : List ℤ
charges_in_order =
    (pos 0 ∷ pos 2 ∷ pos 10 ∷ pos 100 ∷ pos 3000 ∷ pos 4 ∷ pos 20 ∷ pos 200 ∷ pos 6000 ∷ as_numbers (zeros 5))
    ++ (pos 0 ∷ pos 10000000000 ∷ as_numbers (zeros 8))
    ++ (neg_ℤ (pos 333) ∷ neg_ℤ (pos 3) ∷ neg_ℤ (pos 3000) ∷ neg_ℤ (pos 6000) ∷ as_numbers (zeros 16))

-- Q with 1, 2, 3, 4 and 5 kW of e, g, c, s and o; the line that is printed of its resource
abbrev pub provided_q : List ℕ
provided_q = change (amounts_place first 1 0 0) (u32_bytes 1 ++ (u32_bytes 2 ++ (u32_bytes 3 ++ (u32_bytes 4 ++ u32_bytes 5)))) worked_q

abbrev pub line_in_order : List ℕ
line_in_order = 49 ∷ 32 ∷ 49 ∷ 32 ∷ 49 ∷ 32 ∷ 50 ∷ 32 ∷ 51 ∷ 32 ∷ 52 ∷ 32 ∷ 53 ∷ 32 ∷ 51 ∷ 48 ∷ 48 ∷ 48 ∷ 48 ∷ 48 ∷ 48 ∷ 10 ∷ []

-- what the calls for prices and for charges write, and what the program prints of a resource
abbrev pub orders : List Example
orders =
    record { given = price_list (case_of worked_k) (certificate_of priced_q).price; says = prices_in_order }
    ∷ record { given = charges (case_of worked_k) (certificate_of priced_q).amount (certificate_of priced_q).price; says = charges_in_order }
    ∷ record { given = as_numbers (resource_line (case_of worked_k) (certificate_of provided_q) 0); says = as_numbers line_in_order }
    ∷ []

unfoldable pub same : List ℤ → List ℤ → Bool
same [] [] = true
same [] (v ∷ vs) = false
same (v ∷ vs) [] = false
same (v ∷ vs) (v' ∷ vs') = le_z v v' && le_z v' v && same vs vs'

abbrev pub AsSaid : List Example → Type 0
AsSaid examples = T (all (λ (example : Example). same example.given example.says) examples)
