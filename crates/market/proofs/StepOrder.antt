-- The steps' rule: what is tested of neighbouring steps holds of any two.
use mathlib.Core.Bool.{Bool, true}
use mathlib.Core.Path.{◌≡◌, refl, subst}
use Prim.Native.Nat.{ℕ, zero, suc, ◌+◌, ◌-◌, ◌≤◌, ◌<◌}
use native.Mathlib.Decide.{dec_lt}
use native.Mathlib.Numerals.{add-one}
use native.Mathlib.Omega.{arith}
use lib.IntN.{ℤ, pos}
use Rattle.arith.proofs.Order.{≤ℤ-trans}
use Rattle.market.specs.Case.{Case, Resource, Curve, width_of}
use Rattle.market.specs.CaseCheck.{steps_follow, steps_right, never_falls, never_rises, energy_steps_right, steps_rule}
use Rattle.market.specs.CheckInWords.{StepsInOrder, NeverFall, NeverRise, StepsKept}
use Rattle.market.proofs.Tests.{Decides, reworded, both, le_test, lt_test, le_ℤ_test, zero_test, below_test, curves_test}

-- a step and the next
abbrev Follows : (ℤ → ℤ → Type 0) → ℕ → ℤ → ℕ → ℤ → Type 0
Follows May w p w' p' = (w' ≡ 0 → p' ≡ pos 0) × (0 < w' → (0 < w) × May p p')

follow_test : {may : ℤ → ℤ → Bool} {May : ℤ → ℤ → Type 0} → ((a b : ℤ) → Decides (may a b) (May a b)) →
    (w : ℕ) (p : ℤ) (w' : ℕ) (p' : ℤ) → Decides (steps_follow may w p w' p') (Follows May w p w' p')
unfolding steps_follow
follow_test d w p zero p' = reworded (zero_test p') (λ h. ((λ e. h), (λ l. absurd (omega arith)))) (λ h. h.0 refl)
follow_test d w p (suc w') p' = reworded (both (lt_test 0 w) (d p p')) (λ h. ((λ e. absurd (omega arith)), (λ l. h))) (λ h. h.1 (omega arith))

any_order : (a b : ℤ) → Decides true (Unit {0})
any_order a b = record { told = λ h. tt; passes = λ h. tt }

none_behind : (a b : ℕ) → (0 < b → 0 < a) → a ≡ 0 → b ≡ 0
none_behind a zero h e = refl
none_behind a (suc b) h e = absurd (omega (arith, h (omega arith)))

some_before : (a b : ℕ) → (a ≡ 0 → b ≡ 0) → 0 < b → 0 < a
some_before zero b h l = absurd (omega (arith, h refl))
some_before (suc a) b h l = omega arith

module _ {May : ℤ → ℤ → Type 0} (trans : (a b e : ℤ) → May a b → May b e → May a e) (w : ℕ → ℕ) (p : ℕ → ℤ) (m : ℕ) where
  -- from neighbours to any two
  module _ (next : (j : ℕ) → j < m → Follows May (w j) (p j) (w (j + 1)) (p (j + 1))) where
    followed : (j : ℕ) → j < m → Follows May (w j) (p j) (w (suc j)) (p (suc j))
    followed j l = rw add-one at (next j l)

    any_two : (k j : ℕ) → j < k → k < suc m → 0 < w k → (0 < w j) × May (p j) (p k)
    any_two zero j l b h = absurd (omega arith)
    any_two (suc k) j l b h = go (any_two k j) ((followed k (omega arith)).1 h) (dec_lt j k)
      where
        go : (j < k → k < suc m → 0 < w k → (0 < w j) × May (p j) (p k)) → (0 < w k) × May (p k) (p (suc k)) → Dec (j < k) → (0 < w j) × May (p j) (p (suc k))
        go before s (yes a) = let r = before a (omega arith) s.0 in (r.0, trans (p j) (p k) (p (suc k)) r.1 s.1)
        go before s (no a) = let e : k ≡ j = omega arith in subst (λ (i : ℕ). (0 < w i) × May (p i) (p (suc k))) e s

    free : (w 0 ≡ 0 → p 0 ≡ pos 0) → (j : ℕ) → j < suc m → w j ≡ 0 → p j ≡ pos 0
    free first zero l e = first e
    free first (suc j) l e = (followed j (omega arith)).0 e

    in_order : (w 0 ≡ 0 → p 0 ≡ pos 0) → StepsInOrder May w p (suc m)
    in_order first =
        record {
          empty_last = λ j k l b e. none_behind (w j) (w k) (λ h. (any_two k j l b h).0) e;
          empty_free = free first;
          prices_in_order_lem = λ j k l b h g. (any_two k j l b g).1;
        }

  -- and back
  neighbours : StepsInOrder May w p (suc m) → (j : ℕ) → j < m → Follows May (w j) (p j) (w (j + 1)) (p (j + 1))
  neighbours s j l = ((λ e. s.empty_free (j + 1) (omega arith) e), behind)
    where
      behind : 0 < w (j + 1) → (0 < w j) × May (p j) (p (j + 1))
      behind h =
          let g = some_before (w j) (w (j + 1)) (s.empty_last j (j + 1) (omega arith) (omega arith)) h in
          (g, s.prices_in_order_lem j (j + 1) (omega arith) (omega arith) g h)

  steps_test : {may : ℤ → ℤ → Bool} → ((a b : ℤ) → Decides (may a b) (May a b)) → Decides (steps_right may w p (suc m)) (StepsInOrder May w p (suc m))
  unfolding steps_right
  steps_test d =
      reworded (both (follow_test any_order 1 (pos 0) (w 0) (p 0)) (below_test (λ j. follow_test d (w j) (p j) (w (j + 1)) (p (j + 1))) (suc m - 1)))
      (λ h. in_order (λ j l. h.1 j (omega arith)) h.0.0)
      (λ s. (((λ e. s.empty_free 0 (omega arith) e), (λ l. (omega arith, tt))), (λ j l. neighbours s j (omega arith))))

curve_test : (c : Case) (k : Curve) → Decides (steps_right never_rises (c.curve_width k) (λ j. pos (c.curve_price k j)) 4) (StepsInOrder NeverRise (c.curve_width k) (λ j. pos (c.curve_price k j)) 4)
curve_test c k = steps_test {May = NeverRise} (λ a b e h g. ≤ℤ-trans g h) (c.curve_width k) (λ j. pos (c.curve_price k j)) 3 {may = never_rises} (λ a b. le_ℤ_test b a)

energy_test : (r : Resource) → Decides (energy_steps_right r) (StepsInOrder NeverFall r.step_width r.step_price 10 × (width_of r.step_width 10 ≤ 2000000))
unfolding energy_steps_right
energy_test r =
    both (steps_test {May = NeverFall} (λ a b e h g. ≤ℤ-trans h g) r.step_width r.step_price 9 {may = never_falls} le_ℤ_test) (le_test (width_of r.step_width 10) 2000000)

pub steps_rule_test : (c : Case) → Decides (steps_rule c) (StepsKept c)
unfolding steps_rule
steps_rule_test c =
    reworded (both (curves_test c.version (curve_test c)) (below_test (λ i. energy_test (c.resource i)) c.resources))
    (λ h. record { curve_steps = h.0; energy_steps = λ i l. (h.1 i l).0; energy_widths = λ i l. (h.1 i l).1 })
    (λ s. (s.curve_steps, (λ i l. (s.energy_steps i l, s.energy_widths i l))))
