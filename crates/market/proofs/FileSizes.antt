-- How many fields the two files have, and how many bytes they fill.
use mathlib.Core.Path.{◌≡◌, refl, ◌∙◌, ap}
use mathlib.Core.List.{List, [], ◌∷◌, ◌++◌}
use Prim.Native.Nat.{ℕ, ◌+◌, ◌*◌, ◌≤◌}
use native.Mathlib.Nat.{le_refl, mul-le-mul}
use native.Mathlib.Omega.{arith}
use lib.ListN.{length, length-append, length-replicate}
use Rattle.arith.specs.Sums.{total_of, upto}
use Rattle.arith.proofs.NaturalSums.{total-append, total-across, total_same, total-replicate}
use Rattle.arith.proofs.Lists.{length-across, length-upto}
use Rattle.market.specs.Version.{Version, first}
use Rattle.market.specs.CaseFile.{resource_size, flowgate_size, case_size}
use Rattle.market.specs.CaseCheck.{most_resources, most_flowgates, CountsWithin, largest_case_size}
use Rattle.market.specs.Certificate.{entry_size, certificate_size}
use Rattle.market.specs.Numbers.{Field, u32, field_width, times, head_fields, zone_fields, resource_fields, flowgate_fields, case_fields, certificate_head_fields, entry_fields, certificate_fields}

-- ---- the same fields n times
pub times_length : (n : ℕ) (fs : List Field) → length (times n fs) ≡ n * length fs
unfolding times
times_length n fs = length-across (λ i. fs) (length fs) (λ i. refl) (upto n) ∙ ap (λ (m : ℕ). m * length fs) (length-upto n)

pub times_width : (n : ℕ) (fs : List Field) → total_of field_width (times n fs) ≡ n * total_of field_width fs
unfolding times
times_width n fs = total-across field_width (λ i. fs) (upto n) ∙ total_same (total_of field_width fs) (upto n) ∙ ap (λ (m : ℕ). m * total_of field_width fs) (length-upto n)

-- ---- the two files
pub case_count : (version : Version) (r z f : ℕ) → length (case_fields version r z f)
    ≡ length (head_fields version) + length zone_fields * z + length (resource_fields version) * r + f * length (flowgate_fields version r)
unfolding case_fields
case_count version r z f =
    let zones = times z zone_fields in
    let resources = times r (resource_fields version) in
    let flowgates = times f (flowgate_fields version r) in
    omega (
      arith,
      length-append (head_fields version) (zones ++ (resources ++ flowgates)),
      length-append zones (resources ++ flowgates),
      length-append resources flowgates,
      times_length z zone_fields,
      times_length r (resource_fields version),
      times_length f (flowgate_fields version r),
    )

pub certificate_count : (version : Version) (r z f : ℕ) → length (certificate_fields version r z f)
    ≡ length (certificate_head_fields version) + length zone_fields * z + f + length (entry_fields version) * r
unfolding certificate_fields
certificate_count version r z f =
    let zones = times z zone_fields in
    let flowgates = times f (u32 ∷ []) in
    let resources = times r (entry_fields version) in
    omega (
      arith,
      length-append (certificate_head_fields version) (zones ++ (flowgates ++ resources)),
      length-append zones (flowgates ++ resources),
      length-append flowgates resources,
      times_length z zone_fields,
      times_length f (u32 ∷ []),
      times_length r (entry_fields version),
    )

-- of version 1
pub first_case_count : (r z f : ℕ) → length (case_fields first r z f) ≡ 48 + 4 * z + 43 * r + f * (r + 1)
unfolding case_fields
first_case_count r z f = simp (length-append, times_length, length-replicate) (omega arith)

pub first_certificate_count : (r z f : ℕ) → length (certificate_fields first r z f) ≡ 12 + 4 * z + f + 10 * r
unfolding certificate_fields
first_certificate_count r z f = simp (length-append, times_length) (omega arith)

pub case_fills : (version : Version) (r z f : ℕ) → 5 + total_of field_width (case_fields version r z f) ≡ case_size version r z f
unfolding case_fields total_of
case_fills first r z f = simp (total-append, times_width, total-replicate) (omega arith)

pub certificate_fills : (version : Version) (r z f : ℕ) → 5 + total_of field_width (certificate_fields version r z f) ≡ certificate_size version r z f
unfolding certificate_fields total_of
certificate_fills first r z f = simp (total-append, times_width) (omega arith)

-- ---- of counts within the largest
pub fewer_resources : {i r z f : ℕ} → CountsWithin r z f → i ≤ r → CountsWithin i z f
fewer_resources n l = record { most_resources = omega (arith, n.most_resources, l); most_zones = n.most_zones; most_flowgates = n.most_flowgates }

module _ (version : Version) {r z f : ℕ} (n : CountsWithin r z f) where
  pub flowgates_within : f * flowgate_size version r ≤ most_flowgates * flowgate_size version most_resources
  flowgates_within = mul-le-mul {n₁ = f} {m₁ = flowgate_size version r} {n₂ = most_flowgates} {m₂ = flowgate_size version most_resources} n.most_flowgates (omega (arith, n.most_resources))

  pub resources_within : r * resource_size version ≤ most_resources * resource_size version
  resources_within = mul-le-mul {n₁ = r} {m₁ = resource_size version} {n₂ = most_resources} {m₂ = resource_size version} n.most_resources (le_refl (resource_size version))

  pub entries_within : r * entry_size version ≤ most_resources * entry_size version
  entries_within = mul-le-mul {n₁ = r} {m₁ = entry_size version} {n₂ = most_resources} {m₂ = entry_size version} n.most_resources (le_refl (entry_size version))

  pub case_size_most : case_size version r z f ≤ largest_case_size version
  case_size_most = omega (arith, flowgates_within, resources_within, n.most_zones)

-- of any version: so many bytes at most
pub largest_case : (version : Version) → largest_case_size version ≤ 11738
largest_case first = omega arith

pub certificate_size_most : (version : Version) {r z f : ℕ} → CountsWithin r z f → certificate_size version r z f ≤ largest_case_size version
certificate_size_most first n = omega (arith, n.most_resources, n.most_zones, n.most_flowgates)

-- the numbers of its flowgates
pub flowgate_numbers_within : {r z f : ℕ} → CountsWithin r z f → f * (r + 1) ≤ most_flowgates * (most_resources + 1)
flowgate_numbers_within {r} {z} {f} n = mul-le-mul {n₁ = f} {m₁ = r + 1} {n₂ = most_flowgates} {m₂ = most_resources + 1} n.most_flowgates (omega (arith, n.most_resources))
