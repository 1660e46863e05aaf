-- The widths of steps: of the first ones together, of the step at a number, and summed by a loop.
use mathlib.Core.List.{List}
use mathlib.Core.Path.{◌≡◌, refl, ap, ◌∙◌}
use Prim.Native.Nat.{ℕ, zero, suc, ◌+◌, ◌*◌, ◌<◌, ◌≤◌}
use native.Mathlib.Numerals.{add-one}
use native.Mathlib.Omega.{arith}
use lib.IntN.{pos, nat_abs, ◌+ℤ◌}
use Rattle.units.specs.Room.{SumRoom}
use Rattle.market.specs.Case.{Case, Resource as Figures, width_of, energy_steps, curve_steps}
use Rattle.market.specs.declared.Curve.{Curve}
use Rattle.market.specs.Records.{kw, power, offer_step_of, offer_steps_of, curve_step_of, curve_steps_of}
use Rattle.market.specs.declared.Kw.{Kw}
use Rattle.market.specs.declared.Step.{Step}
use Rattle.case_records.specs.Ranged.{UpTo, offer_step, curve_step}
use Rattle.case_records.proofs.Ranged.{offer_step_is, curve_step_is}
use Rattle.limits.specs.Widths.{widths_of}

pub width_more : (w : ℕ → ℕ) (j : ℕ) → width_of w j + w j ≡ width_of w (j + 1)
unfolding width_of
width_more w j = rw add-one

pub widths_same : (w v : ℕ → ℕ) (n : ℕ) → ((j : ℕ) → j < n → w j ≡ v j) → width_of w n ≡ width_of v n
unfolding width_of
widths_same w v zero h = refl
widths_same w v (suc n) h = omega (arith, widths_same w v n (λ j l. h j (omega arith)), h n (omega arith))

widths_most : (w : ℕ → ℕ) (n widest : ℕ) → ((j : ℕ) → j < n → w j ≤ widest) → width_of w n ≤ n * widest
unfolding width_of
widths_most w zero widest h = omega arith
widths_most w (suc n) widest h = omega (arith, widths_most w n widest (λ j l. h j (omega arith)), h n (omega arith))

pub offer_width_is : {o : List Step} (s : Figures) → o ≡ offer_steps_of s → (j : ℕ) → j < energy_steps → widths_of (offer_step o) j ≡ s.step_width j
unfolding offer_step_of
offer_width_is s e j h = ap (λ (x : List Step). widths_of (offer_step x) j) e ∙ ap (λ (x : Step). nat_abs x.width.0) (offer_step_is s j h)

pub curve_width_is : {o : List Step} (c : Case) (k : Curve) → o ≡ curve_steps_of c k → (j : ℕ) → j < curve_steps → widths_of (curve_step o) j ≡ c.curve_width k j
unfolding curve_step_of
curve_width_is c k e j h = ap (λ (x : List Step). widths_of (curve_step x) j) e ∙ ap (λ (x : Step). nat_abs x.width.0) (curve_step_is c k j h)

-- ---- a loop's sum, at step j of n
module _ (steps : ℕ → Step) {n j : ℕ} (few : n ≤ 10) (known : (i : ℕ) → i < n → UpTo (steps i).width.0 8000000) (turn : j < n) {sum : Kw} (so_far : sum ≡ power (width_of (widths_of steps) j)) where
  pub width_room : SumRoom sum.0 (steps j).width.0
  width_room = rw so_far (omega (arith, widths_most (widths_of steps) j 8000000 (λ i l. (known i (omega arith)).at_most), (known j turn).at_most))

  pub one_width_more : {next : Kw} → next ≡ kw (sum.0 +ℤ (steps j).width.0) → next ≡ power (width_of (widths_of steps) (j + 1))
  one_width_more e =
      e
      ∙ ap (λ (x : Kw). kw (x.0 +ℤ (steps j).width.0)) so_far
      ∙ ap (λ v. kw (pos (width_of (widths_of steps) j) +ℤ v)) (known j turn).natural
      ∙ ap power (width_more (widths_of steps) j)
