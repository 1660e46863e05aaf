-- The numbers of a file are its figures in order.
use mathlib.Core.Path.{◌≡◌, refl, sym, ◌∙◌, ap, fun_ext}
use mathlib.Core.List.{List, [], ◌∷◌, ◌++◌, map, append-nil}
use Prim.Native.Nat.{ℕ, zero, suc, ◌+◌, ◌*◌}
use native.Mathlib.Nat.{add_assoc, add-zero}
use native.Mathlib.Omega.{arith}
use lib.IntN.{ℤ, pos}
use lib.ListN.{replicate}
use Rattle.arith.specs.Sums.{upto, across, total_of}
use Rattle.arith.proofs.Lists.{across-append, across-one}
use Rattle.arith.proofs.NaturalSums.{total-replicate}
use Rattle.market.specs.Bytes.{u8_at, u32_at, i16_at, i32_at}
use Rattle.market.specs.Version.{Version, first, version_in}
use Rattle.market.specs.Case.{zoned_curves, energy_steps}
use Rattle.market.specs.CaseFile.{head_size, resource_size, factor_size, flowgate_head_size, flowgate_size, zone_place, resource_place, flowgate_place, resource_at, case_as, case_of}
use Rattle.market.specs.Rows.{zone_row}
use Rattle.market.specs.Certificate.{certificate_head_size, entry_size, zone_prices_place, flowgate_price_place, amounts_place, amount_at, price_at, certificate_as, certificate_of}
use Rattle.market.specs.Numbers.{Field, u8, u32, i16, i32, field_width, field_at, numbers_at, times, head_fields, zone_fields, resource_fields, flowgate_fields, case_fields, certificate_head_fields, entry_fields, certificate_fields, numbers_of, case_numbers, certificate_numbers}
use Rattle.market.specs.FieldsInOrder.{FieldsInOrder, head_figures, zone_figures, resource_figures, flowgate_figures, case_figures, certificate_head_figures, resource_claims, certificate_figures}
use Rattle.market.proofs.FileSizes.{times_width}

-- ---- lists of fields one behind the other
numbers_append : (fs gs : List Field) (b : List ℕ) (p : ℕ) → numbers_at (fs ++ gs) b p ≡ numbers_at fs b p ++ numbers_at gs b (p + total_of field_width fs)
unfolding numbers_at total_of
numbers_append [] gs b p = rw add-zero
numbers_append (f ∷ fs) gs b p = ap (λ (l : List ℤ). field_at f b p ∷ l) (numbers_append fs gs b (p + field_width f) ∙ rw add_assoc)

numbers_times : (n : ℕ) (fs : List Field) (b : List ℕ) (p : ℕ) → numbers_at (times n fs) b p ≡ across (λ i. numbers_at fs b (p + i * total_of field_width fs)) (upto n)
unfolding times across upto numbers_at
numbers_times zero fs b p = refl
numbers_times (suc n) fs b p =
    rw (across-append (λ (i : ℕ). fs) (upto n) (n ∷ []), append-nil fs, numbers_append (times n fs) fs b p, times_width n fs, numbers_times n fs b p, across-append (λ i. numbers_at fs b (p + i * total_of field_width fs)) (upto n) (n ∷ []), append-nil (numbers_at fs b (p + n * total_of field_width fs)))

-- as many fields of one kind
replicate_times : (n : ℕ) (f : Field) → replicate n f ≡ times n (f ∷ [])
unfolding times across upto
replicate_times zero f = refl
replicate_times (suc n) f = rw (across-append (λ (i : ℕ). f ∷ []) (upto n) (n ∷ []), ← (replicate_times n f)) (last n)
  where
    last : (n : ℕ) → f ∷ replicate n f ≡ replicate n f ++ (f ∷ [])
    last zero = refl
    last (suc n) = ap (λ (l : List Field). f ∷ l) (last n)

-- ---- places as an offset from a start
shifted : List Field → List ℕ → ℕ → ℕ → List ℤ
shifted [] b p o = []
shifted (f ∷ fs) b p o = field_at f b (p + o) ∷ shifted fs b p (o + field_width f)

shifted_is : (fs : List Field) (b : List ℕ) (p o : ℕ) → numbers_at fs b (p + o) ≡ shifted fs b p o
unfolding numbers_at shifted
shifted_is [] b p o = refl
shifted_is (f ∷ fs) b p o = ap (λ (l : List ℤ). field_at f b (p + o) ∷ l) (rw add_assoc (shifted_is fs b p (o + field_width f)))

from_start : (fs : List Field) (b : List ℕ) (p : ℕ) → numbers_at fs b p ≡ shifted fs b p 0
from_start fs b p = ap (numbers_at fs b) (sym (add-zero p)) ∙ shifted_is fs b p 0

-- ---- a resource
plain_fields : List Field
plain_fields = replicate 6 u8 ++ (i32 ∷ replicate 16 u32)

step_fields : (b : List ℕ) (p : ℕ) → numbers_at (times energy_steps (u32 ∷ i32 ∷ [])) b (p + 74)
    ≡ across (λ j. pos ((resource_at first b p).step_width j) ∷ (resource_at first b p).step_price j ∷ []) (upto energy_steps)
unfolding numbers_at field_at resource_at total_of
step_fields b p =
    numbers_times energy_steps (u32 ∷ i32 ∷ []) b (p + 74)
    ∙ ap (λ (g : ℕ → List ℤ). across g (upto energy_steps)) (fun_ext (λ j. ap (λ (q : ℕ). pos (u32_at b (p + 74 + j * 8)) ∷ i32_at b q ∷ []) (price j)))
  where
    price : (j : ℕ) → p + 74 + j * 8 + 4 ≡ p + 78 + j * 8
    price j = omega arith

resource_in_order : (version : Version) (b : List ℕ) (p : ℕ) → numbers_at (resource_fields version) b p ≡ resource_figures version (resource_at version b p)
unfolding plain_fields field_at resource_at total_of shifted
resource_in_order first b p =
    numbers_append plain_fields (times energy_steps (u32 ∷ i32 ∷ [])) b p
    ∙ rw (from_start plain_fields b p, step_fields b p, add-zero p)

resource_width : (version : Version) → total_of field_width (resource_fields version) ≡ resource_size version
unfolding total_of times across upto
resource_width first = refl

-- ---- a flowgate's limit, and its factors
flowgate_width : (version : Version) (r : ℕ) → total_of field_width (flowgate_fields version r) ≡ flowgate_size version r
unfolding total_of
flowgate_width version r = omega (arith, total-replicate field_width r i16)

factors_in_order : (r : ℕ) (b : List ℕ) (p : ℕ) → numbers_at (replicate r i16) b p ≡ map (λ i. i16_at b (p + i * factor_size)) (upto r)
unfolding numbers_at field_at total_of
factors_in_order r b p = rw (replicate_times r i16) (numbers_times r (i16 ∷ []) b p ∙ across-one (λ i. i16_at b (p + i * factor_size)) (upto r))

-- ---- the case
head_width : (version : Version) → 5 + total_of field_width (head_fields version) ≡ head_size version
unfolding total_of
head_width first = refl

case_parts : (version : Version) (r z f : ℕ) (b : List ℕ) → numbers_at (case_fields version r z f) b 5
    ≡ numbers_at (head_fields version) b 5
    ++ (across (λ i. numbers_at zone_fields b (zone_place version i)) (upto z)
    ++ (across (λ i. numbers_at (resource_fields version) b (resource_place version z i)) (upto r) ++ across (λ g. numbers_at (flowgate_fields version r) b (flowgate_place version r z g)) (upto f)))
unfolding case_fields total_of
case_parts version r z f b =
    let zones = times z zone_fields in
    let resources = times r (resource_fields version) in
    let flowgates = times f (flowgate_fields version r) in
    numbers_append (head_fields version) (zones ++ (resources ++ flowgates)) b 5
    ∙ ap (λ (at : ℕ). numbers_at (head_fields version) b 5 ++ numbers_at (zones ++ (resources ++ flowgates)) b at) (head_width version)
    ∙ rw (numbers_append zones (resources ++ flowgates) b (head_size version), numbers_times z zone_fields b (head_size version), times_width z zone_fields, numbers_append resources flowgates b (zone_place version z), numbers_times r (resource_fields version) b (zone_place version z), times_width r (resource_fields version), resource_width version, numbers_times f (flowgate_fields version r) b (resource_place version z r), flowgate_width version r)

zone_in_order : (version : Version) (b : List ℕ) (i : ℕ) → numbers_at zone_fields b (zone_place version i) ≡ zone_figures (case_as version b) i
unfolding field_at shifted case_as
zone_in_order version b i = from_start zone_fields b (zone_place version i)

flowgate_in_order : (version : Version) (b : List ℕ) (f : ℕ) → numbers_at (flowgate_fields version (u8_at b 5)) b (flowgate_place version (u8_at b 5) (u8_at b 6) f) ≡ flowgate_figures (case_as version b) f
unfolding numbers_at field_at case_as
flowgate_in_order version b f =
    ap (λ (l : List ℤ). i32_at b (flowgate_place version (u8_at b 5) (u8_at b 6) f) ∷ l) (factors_in_order (u8_at b 5) b (flowgate_place version (u8_at b 5) (u8_at b 6) f + flowgate_head_size version))

head_in_order : (version : Version) (b : List ℕ) → numbers_at (head_fields version) b 5 ≡ head_figures (case_as version b)
unfolding case_as numbers_at field_at across upto
head_in_order first b = refl

-- as a file of any version
case_as_in_order : (version : Version) (b : List ℕ) → numbers_at (case_fields version (u8_at b 5) (u8_at b 6) (u8_at b 7)) b 5 ≡ case_figures (case_as version b)
unfolding case_as
case_as_in_order version b =
    case_parts version (u8_at b 5) (u8_at b 6) (u8_at b 7) b
    ∙ rw (head_in_order version b, fun_ext (zone_in_order version b), fun_ext (λ i. resource_in_order version b (resource_place version (u8_at b 6) i)), fun_ext (flowgate_in_order version b))

case_in_order : (b : List ℕ) → case_numbers b ≡ case_figures (case_of b)
unfolding numbers_of
case_in_order b = case_as_in_order (version_in b) b

-- ---- the certificate
entry_width : (version : Version) → total_of field_width (entry_fields version) ≡ entry_size version
unfolding total_of
entry_width first = refl

certificate_head_width : (version : Version) → 5 + total_of field_width (certificate_head_fields version) ≡ certificate_head_size version
unfolding total_of
certificate_head_width first = refl

certificate_parts : (version : Version) (r z f : ℕ) (q : List ℕ) → numbers_at (certificate_fields version r z f) q 5
    ≡ numbers_at (certificate_head_fields version) q 5
    ++ (across (λ i. numbers_at zone_fields q (zone_prices_place version i)) (upto z)
    ++ (across (λ g. numbers_at (u32 ∷ []) q (flowgate_price_place version z g)) (upto f) ++ across (λ i. numbers_at (entry_fields version) q (amounts_place version z f i)) (upto r)))
unfolding certificate_fields total_of
certificate_parts version r z f q =
    let zones = times z zone_fields in
    let flowgates = times f (u32 ∷ []) in
    let resources = times r (entry_fields version) in
    numbers_append (certificate_head_fields version) (zones ++ (flowgates ++ resources)) q 5
    ∙ ap (λ (at : ℕ). numbers_at (certificate_head_fields version) q 5 ++ numbers_at (zones ++ (flowgates ++ resources)) q at) (certificate_head_width version)
    ∙ rw (numbers_append zones (flowgates ++ resources) q (certificate_head_size version), numbers_times z zone_fields q (certificate_head_size version), times_width z zone_fields, numbers_append flowgates resources q (zone_prices_place version z), numbers_times f (u32 ∷ []) q (zone_prices_place version z), times_width f (u32 ∷ []), numbers_times r (entry_fields version) q (flowgate_price_place version z f), entry_width version)

zone_prices_in_order : (version : Version) (q : List ℕ) (i : ℕ) → numbers_at zone_fields q (zone_prices_place version i) ≡ map (λ c. (certificate_as version q).price (zone_row i c)) zoned_curves
unfolding field_at shifted certificate_as price_at
zone_prices_in_order version q i = from_start zone_fields q (zone_prices_place version i)

claims_in_order : (version : Version) (q : List ℕ) (i : ℕ) → numbers_at (entry_fields version) q (amounts_place version (u8_at q 6) (u8_at q 7) i) ≡ resource_claims (certificate_as version q) i
unfolding field_at shifted certificate_as price_at amount_at
claims_in_order first q i = from_start (entry_fields first) q (amounts_place first (u8_at q 6) (u8_at q 7) i)

flowgate_prices_in_order : (version : Version) (z f : ℕ) (q : List ℕ) → across (λ g. numbers_at (u32 ∷ []) q (flowgate_price_place version z g)) (upto f) ≡ map (λ g. pos (u32_at q (flowgate_price_place version z g))) (upto f)
unfolding numbers_at field_at
flowgate_prices_in_order version z f q = across-one (λ g. pos (u32_at q (flowgate_price_place version z g))) (upto f)

certificate_head_in_order : (version : Version) (q : List ℕ) → numbers_at (certificate_head_fields version) q 5 ≡ certificate_head_figures (certificate_as version q)
unfolding certificate_as numbers_at field_at amount_at price_at
certificate_head_in_order first q = refl

certificate_as_in_order : (version : Version) (q : List ℕ) → numbers_at (certificate_fields version (u8_at q 5) (u8_at q 6) (u8_at q 7)) q 5 ≡ certificate_figures (certificate_as version q)
unfolding certificate_as price_at
certificate_as_in_order version q =
    certificate_parts version (u8_at q 5) (u8_at q 6) (u8_at q 7) q
    ∙ rw (certificate_head_in_order version q, fun_ext (zone_prices_in_order version q), fun_ext (claims_in_order version q), flowgate_prices_in_order version (u8_at q 6) (u8_at q 7) q)

certificate_in_order : (q : List ℕ) → certificate_numbers q ≡ certificate_figures (certificate_of q)
unfolding numbers_of
certificate_in_order q = certificate_as_in_order (version_in q) q

pub fields_in_order : FieldsInOrder
fields_in_order = record { case_in_order = case_in_order; certificate_in_order = certificate_in_order }
