-- The limits and upper bounds of a resource of a case whose figures are in range are small.
use Prim.Native.Nat.{ℕ, ◌<◌}
use native.Mathlib.Omega.{arith}
use lib.IntN.{pos}
use Rattle.arith.proofs.Magnitudes.{abs_neg}
use Rattle.market.specs.Case.{Case}
use Rattle.market.specs.Limits.{max_of, hi_of}
use Rattle.market.specs.Rows.{limit_row, max_with_reserve, minimum, high, low, right_side}
use Rattle.market.specs.UpperBounds.{regulation, contingency, on_line_short_term, off_line_short_term}
use Rattle.market.proofs.Ranges.{CaseRanges}
use Rattle.market.proofs.RowSizes.{right_size}
use Rattle.market.proofs.LimitSizes.{service_most}
use Rattle.limits.specs.Together.{limits_of, reserve_bounds_of}
use Rattle.capabilities.specs.Sizes.{SmallLimits, SmallBounds}

module _ (c : Case) (h : CaseRanges c) (i : ℕ) (n : i < c.resources) where
  pub limits_small : SmallLimits (limits_of (c.resource i))
  unfolding limits_of right_side
  limits_small =
      let r = c.resource i in
      record {
        max = omega (arith, (right_size c h (limit_row i max_with_reserve) (n, tt)).le, abs_neg (pos (max_of r)));
        min = (right_size c h (limit_row i minimum) (n, tt)).le;
        high = omega (arith, (right_size c h (limit_row i high) (n, tt)).le, abs_neg (hi_of r));
        low = (right_size c h (limit_row i low) (n, tt)).le;
      }

  pub bounds_small : SmallBounds (reserve_bounds_of c (c.resource i))
  unfolding reserve_bounds_of
  bounds_small =
      let most = service_most (h.resource i n) c in
      record {
        regulation = most regulation;
        contingency = most contingency;
        on_line_short_term = most on_line_short_term;
        off_line_short_term = most off_line_short_term;
      }
