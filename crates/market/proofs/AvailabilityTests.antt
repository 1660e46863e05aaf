-- What makes a resource on-line, off-line or tripped: the two tests of the definition, and the statements that they decide.
use mathlib.Core.Logic.{◌↔◌, ◌⊎◌}
use mathlib.Core.Path.{◌≡◌}
use Prim.Native.Nat.{ℕ, ◌/◌, ◌%◌, ◌≤◌, ◌<◌}
use native.Mathlib.Omega.{arith}
use lib.IntN.{pos, neg_ℤ}
use lib.Signed.{◌<ℤ◌}
use Rattle.market.specs.Case.{Resource}
use Rattle.market.specs.Availability.{has_tripped, running, availability_of}
use Rattle.market.specs.AvailabilityInWords.{BitSet, OnLine, OffLine, Tripped, Closed, AtLeast500}
use Rattle.market.proofs.OneOfThree.{is_tripped, is_on_line_lem, is_off_line}
use Rattle.market.proofs.Tests.{Decides, both, either, eq_test, le_test, le_ℤ_test, lt_ℤ_test}

-- ---- the two tests
abbrev pub Conventional : Resource → Type 0
Conventional r = ((r.kind ≡ 1) × AtLeast500 r) × Closed r

abbrev pub Intermittent : Resource → Type 0
Intermittent r = (((r.kind ≡ 2) × BitSet 1 r.status) × Closed r) × (pos 0 <ℤ r.output)

abbrev pub External : Resource → Type 0
External r = (((r.kind ≡ 3) × BitSet 2 r.status) × Closed r) × BitSet 4 r.status

abbrev pub Running : Resource → Type 0
Running r = (Conventional r ⊎ Intermittent r) ⊎ External r

abbrev pub HasTripped : Resource → Type 0
HasTripped r = (r.kind ≡ 1) × (r.trip ≤ 15)

running_test : (r : Resource) → Decides (running r) (Running r)
unfolding running
running_test r =
    let kind : (n : ℕ) → Decides _ (r.kind ≡ n) = λ n. eq_test r.kind n in
    let closed = eq_test r.breaker 1 in
    either
    (either
    (both (both (kind 1) (either (le_ℤ_test (pos 500) r.output) (le_ℤ_test r.output (neg_ℤ (pos 500))))) closed)
    (both (both (both (kind 2) (eq_test (r.status / 1 % 2) 1)) closed) (lt_ℤ_test (pos 0) r.output)))
    (both (both (both (kind 3) (eq_test (r.status / 2 % 2) 1)) closed) (eq_test (r.status / 4 % 2) 1))

tripped_test : (r : Resource) → Decides (has_tripped r) (HasTripped r)
unfolding has_tripped
tripped_test r = both (eq_test r.kind 1) (le_test r.trip 15)

-- ---- each of the three, by what it asks
pub tripped_asks : (r : Resource) → Tripped r ↔ HasTripped r
unfolding availability_of
tripped_asks r =
    let is = is_tripped (has_tripped r) (running r) in
    let t = tripped_test r in (λ e. t.told (is.0 e), λ h. is.1 (t.passes h))

pub on_line_asks : (r : Resource) → OnLine r ↔ (¬ (HasTripped r) × Running r)
unfolding availability_of
on_line_asks r =
    let is = is_on_line_lem (has_tripped r) (running r) in
    let t = tripped_test r in
    let u = running_test r in (
      λ e. (λ h. (is.0 e).0 (t.passes h), u.told (is.0 e).1),
      λ h. is.1 (λ x. h.0 (t.told x), u.passes h.1),
    )

pub off_line_asks : (r : Resource) → OffLine r ↔ (¬ (HasTripped r) × ¬ (Running r))
unfolding availability_of
off_line_asks r =
    let is = is_off_line (has_tripped r) (running r) in
    let t = tripped_test r in
    let u = running_test r in (
      λ e. (λ h. (is.0 e).0 (t.passes h), λ h. (is.0 e).1 (u.passes h)),
      λ h. is.1 (λ x. h.0 (t.told x), λ x. h.1 (u.told x)),
    )

pub above_15 : (r : Resource) → r.kind ≡ 1 → ¬ (HasTripped r) → 15 < r.trip
above_15 r e h = let over : ¬ (r.trip ≤ 15) = λ k. h (e, k) in omega (arith, over)
