-- What a version has none of is 0 in its files, and so in every range.
use mathlib.Core.Bool.{Bool, true, false}
use mathlib.Core.List.{List}
use Prim.Native.Nat.{ℕ, ◌<◌, ◌≤◌}
use native.Mathlib.Omega.{arith}
use lib.Dec.{T}
use Rattle.market.specs.Version.{version_in, more}
use Rattle.market.specs.Case.{Curve, has_curve, zoned, curve_steps}
use Rattle.market.specs.CaseFile.{case_as, case_of}
use Rattle.market.specs.Outcome.{Valid}
use Rattle.market.specs.Sizes.{most_curve_width, most_cents, most_zone_requirement}
use Rattle.market.proofs.Ranges.{valid_ranges}

pub more_most : (t : Bool) (n most : ℕ) → (T t → more t n ≤ most) → more t n ≤ most
more_most true n most h = h tt
more_most false n most h = omega arith

module _ (b : List ℕ) (v : Valid b) where
  pub width_to : (k : Curve) (j : ℕ) → j < curve_steps → (case_of b).curve_width k j ≤ most_curve_width
  unfolding case_as
  width_to k j l = more_most (has_curve (version_in b) k) _ most_curve_width (λ t. (valid_ranges b v).curve_width k t j l)

  pub curve_price_to : (k : Curve) (j : ℕ) → j < curve_steps → (case_of b).curve_price k j ≤ most_cents
  unfolding case_as
  curve_price_to k j l = more_most (has_curve (version_in b) k) _ most_cents (λ t. (valid_ranges b v).curve_price k t j l)

  pub requirement_to : (z : ℕ) → z < (case_of b).zones → (k : Curve) → (case_of b).zone_requirement z k ≤ most_zone_requirement
  unfolding case_as
  requirement_to z l k = more_most (zoned k) _ most_zone_requirement (λ t. (valid_ranges b v).zone_requirement z k l t)
