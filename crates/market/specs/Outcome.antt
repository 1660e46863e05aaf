-- How the case check, the certificate check, and the calls for prices and charges end (01, 'How each operation refuses').
use Rattle.market.specs.declared.Refusal.{Refusal}
use Rattle.std.specs.Prelude.{Result}
use Rattle.std.specs.Prelude.{Bool, ◌&&◌, List, [], ◌∷◌, ◌++◌, ℕ, length, leb, eqb, ℤ, pos}
use Rattle.std.specs.Int.Signed.{le_z}
use Rattle.arith.specs.Sums.{all}
use Rattle.market.specs.declared.Refusal.TheVariants.{CaseLength, CaseVersion, Counts, CaseSize, FieldRange, StepRule, LimitPair, CertificateLength, CertificateVersion, CountsDiffer, CertificateSize, PriceRange, AboveBound, RowBroken, BufferShort}
use Rattle.market.specs.declared.Valuation.{Valuation}
use Rattle.market.specs.Bytes.{within_ℤ}
use Rattle.market.specs.Case.{Case}
use Rattle.market.specs.CaseFile.{least_case_size, case_of}
use Rattle.market.specs.CaseCheck.{length_right, version_right, counts_right, case_size_right, fields_in_range, steps_rule, limits_ordered}
use Rattle.market.specs.UpperBounds.{Quantity, quantities, upper_bound}
use Rattle.market.specs.Rows.{Row, rows, Sense, equal, at_least, sense, slack}
use Rattle.market.specs.Certificate.{Certificate, certificate_of, least_certificate_size, certificate_size, lowest_price, highest_price}
use Rattle.market.specs.Cost.{cost}
use Rattle.market.specs.Bound.{bound}
use Rattle.market.specs.Charges.{gap, charges, charge_count}
use Rattle.market.specs.Prices.{price_list, price_count}
use Rattle.market.specs.Refusals.{Finding, unless, first_failing, first_of, answered, buffer_after, AllClear}

-- ---- check a case: 1 to 7, of the bytes b
unfoldable pub case_grounds : List ℕ → List Finding
case_grounds b =
    unless (length_right least_case_size b) CaseLength
    ∷ unless (version_right b) CaseVersion
    ∷ unless (counts_right (case_of b).resources (case_of b).zones (case_of b).flowgates) Counts
    ∷ unless (case_size_right b (case_of b)) CaseSize
    ∷ unless (fields_in_range (case_of b)) FieldRange
    ∷ unless (steps_rule (case_of b)) StepRule
    ∷ unless (limits_ordered (case_of b)) LimitPair
    ∷ []

unfoldable pub case_answer : List ℕ → Result (Unit {0}) Refusal
case_answer b = answered tt (first_of (case_grounds b))

-- a case is valid if none of 1 to 7 holds of its bytes
abbrev pub Valid : List ℕ → Type 0
Valid b = AllClear (case_grounds b)

-- ---- check a certificate, of the bytes q, against the case c: 8 to 14
unfoldable pub same_counts : Case → Certificate → Bool
same_counts c d = eqb d.resources c.resources && eqb d.zones c.zones && eqb d.flowgates c.flowgates

abbrev pub price_right : Certificate → Row → Bool
price_right d row = within_ℤ (lowest_price (sense row) (highest_price row)) (pos (highest_price row)) (d.price row)

abbrev pub within_bound : Case → Certificate → Quantity → Bool
within_bound c d a = leb (d.amount a) (upper_bound c a)

abbrev pub meets : Sense → ℤ → Bool
meets equal v = within_ℤ (pos 0) (pos 0) v
meets at_least v = le_z (pos 0) v

abbrev pub row_met : Case → Certificate → Row → Bool
row_met c d row = meets (sense row) (slack c d.amount row)

-- 8 to 11, its form
unfoldable pub form_grounds : Case → List ℕ → Certificate → List Finding
form_grounds c q d =
    unless (length_right least_certificate_size q) CertificateLength
    ∷ unless (version_right q) CertificateVersion
    ∷ unless (same_counts c d) CountsDiffer
    ∷ unless (eqb (length q) (certificate_size c.version c.resources c.zones c.flowgates)) CertificateSize
    ∷ []

-- 12
abbrev pub price_ground : Case → Certificate → Finding
price_ground c d = unless (all (price_right d) (rows c)) PriceRange

-- 13
abbrev pub bound_ground : Case → Certificate → Finding
bound_ground c d = first_failing (within_bound c d) AboveBound 1 (quantities c)

-- 14
abbrev pub row_ground : Case → Certificate → Finding
row_ground c d = first_failing (row_met c d) RowBroken 1 (rows c)

unfoldable pub certificate_grounds : Case → List ℕ → Certificate → List Finding
certificate_grounds c q d = form_grounds c q d ++ (price_ground c d ∷ bound_ground c d ∷ row_ground c d ∷ [])

abbrev pub grounds : List ℕ → List ℕ → List Finding
grounds b q = case_grounds b ++ certificate_grounds (case_of b) q (certificate_of q)

-- those before 12, before 13 and before 14
unfoldable pub grounds_to11 : List ℕ → List ℕ → List Finding
grounds_to11 b q = case_grounds b ++ form_grounds (case_of b) q (certificate_of q)

unfoldable pub grounds_to12 : List ℕ → List ℕ → List Finding
grounds_to12 b q = grounds_to11 b q ++ (price_ground (case_of b) (certificate_of q) ∷ [])

unfoldable pub grounds_to13 : List ℕ → List ℕ → List Finding
grounds_to13 b q = grounds_to12 b q ++ (bound_ground (case_of b) (certificate_of q) ∷ [])

abbrev pub valued : ℤ → ℤ → ℤ → Valuation
valued cost bound gap = record { cost = record { 0 = cost }; bound = record { 0 = bound }; gap = record { 0 = gap } }

-- success returns cost, bound and gap
unfoldable pub valuation : Case → Certificate → Valuation
valuation c d = valued (cost c d.amount) (bound c d.price) (gap c d.amount d.price)

unfoldable pub outcome : List ℕ → List ℕ → Result Valuation Refusal
outcome b q = answered (valuation (case_of b) (certificate_of q)) (first_of (grounds b q))

-- ---- prices, charges: 1 to 14, then 15, a lent buffer of n numbers where more are needed
abbrev pub room : ℕ → ℕ → Finding
room needed n = unless (leb needed n) BufferShort

unfoldable pub price_grounds : List ℕ → List ℕ → ℕ → List Finding
price_grounds b q n = grounds b q ++ (room (price_count (case_of b)) n ∷ [])

unfoldable pub charge_grounds : List ℕ → List ℕ → ℕ → List Finding
charge_grounds b q n = grounds b q ++ (room (charge_count (case_of b)) n ∷ [])

unfoldable pub price_answer : List ℕ → List ℕ → ℕ → Result (Unit {0}) Refusal
price_answer b q n = answered tt (first_of (price_grounds b q n))

unfoldable pub charge_answer : List ℕ → List ℕ → ℕ → Result (Unit {0}) Refusal
charge_answer b q n = answered tt (first_of (charge_grounds b q n))

abbrev pub listed_charges : List ℕ → List ℕ → List ℤ
listed_charges b q = charges (case_of b) (certificate_of q).amount (certificate_of q).price

-- the lent buffer afterwards
unfoldable pub price_buffer : List ℕ → List ℕ → List ℤ → List ℤ
price_buffer b q old = buffer_after (first_of (price_grounds b q (length old))) (price_list (case_of b) (certificate_of q).price) old

unfoldable pub charge_buffer : List ℕ → List ℕ → List ℤ → List ℤ
charge_buffer b q old = buffer_after (first_of (charge_grounds b q (length old))) (listed_charges b q) old
