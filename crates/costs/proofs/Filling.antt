-- Steps filled one after the other: from x kW on, what is left before step j is x less the widths before it, and what
-- fills it is `filled w x j`. What the first steps are worth, and how large that can be.
use mathlib.Core.List.{List}
use mathlib.Core.Path.{◌≡◌, ap, ◌∙◌}
use Prim.Native.Nat.{ℕ, ◌+◌, ◌*◌, ◌-◌, ◌<◌, ◌≤◌, min}
use native.Mathlib.Nat.{mul-le-mul}
use native.Mathlib.Omega.{arith}
use lib.IntN.{ℤ, pos, nat_abs, ◌-ℤ◌, ◌*ℤ◌}
use Rattle.arith.proofs.Order.{pos-sub}
use Rattle.arith.proofs.Magnitudes.{abs-mul}
use Rattle.arith.proofs.Sums.{sum-each-ext}
use Rattle.arith.proofs.NaturalSums.{upto-size}
use Rattle.arith.proofs.Lists.{each-upto}
use Rattle.arith.specs.Sums.{sum_of, upto}
use Rattle.market.specs.Case.{width_of}
use Rattle.market.specs.Cost.{filled}
use Rattle.market.specs.Records.{kw, power, cents}
use Rattle.market.specs.declared.Step.{Step}
use Rattle.market.specs.declared.Kw.{Kw}
use Rattle.market.proofs.Steps.{filled_below}
use Rattle.case_records.specs.Ranged.{UpTo, RangedSteps, RangedCurve, offer_step, curve_step}
use Rattle.limits.specs.Widths.{widths_of}
use Rattle.limits.proofs.Widths.{width_more, widths_same}
use Rattle.units.specs.Room.{SumRoom, ProductRoom}
use Rattle.costs.specs.Steps.{most_in_steps, filling_of, step_worth, steps_worth, StepRanges}

-- ---- one step: of a kW that are left, into a step b wide
module _ {a b : ℤ} {m n : ℕ} (left : UpTo a m) (width : UpTo b n) where
  -- what fills it
  pub step_part : {part : Kw} → ((m n : ℕ) → kw b ≡ power m → kw a ≡ power n → part ≡ power (min m n)) → part ≡ power (min (nat_abs b) (nat_abs a))
  step_part e = e (nat_abs b) (nat_abs a) (ap kw width.natural) (ap kw left.natural)

  -- what is left after it
  pub left_after : {part : ℤ} → part ≡ pos (min (nat_abs b) (nat_abs a)) → a -ℤ part ≡ pos (nat_abs a - nat_abs b)
  left_after e = rw (left.natural, e) (pos-sub (nat_abs a) (min (nat_abs b) (nat_abs a)) (omega arith) ∙ ap pos (omega arith))

-- ---- the steps in order
pub before_steps : {a : Kw} {m : ℕ} (w : ℕ → ℕ) → UpTo a.0 m → a ≡ power (nat_abs a.0 - width_of w 0)
unfolding width_of
before_steps w h = ap kw (h.natural ∙ ap pos (omega arith))

-- step j, out of what the steps before it leave of x
pub next_step : (w : ℕ → ℕ) (x j : ℕ) → filling_of (x - width_of w j) (w j) ≡ (record { part = power (filled w x j); left = power (x - width_of w (j + 1)) })
unfolding filling_of filled
next_step w x j = λ i. record { part = power (min (w j) (x - width_of w j)); left = power (after i) }
  where
    after : x - width_of w j - w j ≡ x - width_of w (j + 1)
    after = omega (arith, width_more w j)

-- ---- what they are worth
pub filled_same : (w v : ℕ → ℕ) (x n : ℕ) → ((j : ℕ) → j < n → w j ≡ v j) → (j : ℕ) → j < n → filled w x j ≡ filled v x j
unfolding filled
filled_same w v x n h j l = rw (h j l, widths_same w v j (λ k m. h k (omega arith)))

-- by the figures that the steps stand for
pub steps_worth_is : (steps : ℕ → Step) (w : ℕ → ℕ) (p : ℕ → ℤ) (x n : ℕ) → ((j : ℕ) → j < n → steps j ≡ (record { width = power (w j); price = cents (p j) }))
    → steps_worth steps x n ≡ sum_of (λ j. p j *ℤ pos (filled w x j)) (upto n)
unfolding step_worth
steps_worth_is steps w p x n h =
    sum-each-ext (step_worth steps x) (λ j. p j *ℤ pos (filled w x j)) (upto n)
    (each-upto _ n (λ j l. simp (filled_same (widths_of steps) w x n (λ k m. ap (λ (t : Step). nat_abs t.width.0) (h k m)) j l, h j l)))

module _ {steps : ℕ → Step} {n widest : ℕ} (known : StepRanges steps n widest) (few : n ≤ 16) (small : widest ≤ most_in_steps) (x : ℕ) where
  filled_most : (j : ℕ) → j < n → filled (widths_of steps) x j ≤ widest
  filled_most j l = omega (arith, filled_below (widths_of steps) x j, (known.width j l).at_most)

  pub step_size_lem : (j : ℕ) → j < n → nat_abs (step_worth steps x j) ≤ 400000 * widest
  unfolding step_worth
  step_size_lem j l = omega (arith, abs-mul (steps j).price.0 (pos (filled (widths_of steps) x j)), mul-le-mul (known.price j l) (filled_most j l))

  pub steps_size : (m : ℕ) → m ≤ n → nat_abs (steps_worth steps x m) ≤ m * (400000 * widest)
  steps_size m l = upto-size (step_worth steps x) (400000 * widest) m (λ j k. step_size_lem j (omega arith))

  -- a step's product fits, and its sum with the steps before it
  pub step_room : (j : ℕ) → j < n → ProductRoom (steps j).price.0 (pos (filled (widths_of steps) x j))
  step_room j l =
      record {
        left = omega (arith, known.price j l);
        right = omega (arith, filled_most j l);
        product = omega (arith, mul-le-mul (known.price j l) (filled_most j l));
      }

  pub steps_room : (j : ℕ) → j < n → SumRoom (steps_worth steps x j) (step_worth steps x j)
  steps_room j l =
      let most : 400000 * widest ≤ 400000 * most_in_steps = omega arith in
      let count : j ≤ 16 = omega arith in
      omega (arith, step_size_lem j l, steps_size j (omega arith), mul-le-mul count most)

-- ---- the steps of an offer, and of a curve
pub offer_ranges : {o : (List Step)} → RangedSteps o → StepRanges (offer_step o) 10 2000000
offer_ranges h = record { width = h.width; price = h.price }

pub curve_ranges : {o : (List Step)} → RangedCurve o → StepRanges (curve_step o) 4 8000000
curve_ranges h = record { width = h.width; price = λ j l. (h.price j l).at_most }
