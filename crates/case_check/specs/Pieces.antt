-- Grounds 6 and 7 piece by piece, as the code tests them: parts of `steps_rule` and `limits_ordered` of market's CaseCheck.
use Rattle.std.specs.Prelude.{ℕ, ◌+◌, Bool, true, pos}
use Rattle.market.specs.Case.{Case, Resource, curve_steps}
use Rattle.market.specs.declared.Curve.{Curve}
use Rattle.market.specs.CaseCheck.{steps_follow, steps_right, never_falls, never_rises, energy_steps_right, pairs_ordered}

-- ---- a resource's energy steps
abbrev pub offer_starts : Resource → Bool
offer_starts r = steps_follow (λ v v'. true) 1 (pos 0) (r.step_width 0) (r.step_price 0)

abbrev pub offer_follows : Resource → ℕ → Bool
offer_follows r j = steps_follow never_falls (r.step_width j) (r.step_price j) (r.step_width (j + 1)) (r.step_price (j + 1))

-- of resource i
abbrev pub offer_right : Case → ℕ → Bool
offer_right c i = energy_steps_right (c.resource i)

-- ---- a curve's steps
abbrev pub curve_follows : Case → Curve → ℕ → Bool
curve_follows c k j =
    steps_follow never_rises (c.curve_width k j) (pos (c.curve_price k j)) (c.curve_width k (j + 1)) (pos (c.curve_price k (j + 1)))

abbrev pub curve_right : Case → Curve → Bool
curve_right c k = steps_right never_rises (c.curve_width k) (λ j. pos (c.curve_price k j)) curve_steps

-- ---- the pairs of limits of resource i
abbrev pub limits_right : Case → ℕ → Bool
limits_right c i = pairs_ordered (c.resource i)
