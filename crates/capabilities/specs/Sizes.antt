-- How large the limits and upper bounds of a resource are.
use Rattle.std.specs.Prelude.{◌≤◌, nat_abs}
use Rattle.market.specs.Rows.{max_with_reserve, minimum, high, low}
use Rattle.market.specs.Sizes.{most_power, most_limit}
use Rattle.limits.specs.declared.ReserveBounds.{ReserveBounds}
use Rattle.limits.specs.declared.ResourceLimits.{ResourceLimits}

pub record SmallLimits (limits : ResourceLimits) : Type 0 where
  pub max : nat_abs limits.max.0 ≤ most_limit max_with_reserve
  pub min : nat_abs limits.min.0 ≤ most_limit minimum
  pub high : nat_abs limits.high.0 ≤ most_limit high
  pub low : nat_abs limits.low.0 ≤ most_limit low

pub record SmallBounds (bounds : ReserveBounds) : Type 0 where
  pub regulation : nat_abs bounds.regulation.0 ≤ most_power
  pub contingency : nat_abs bounds.contingency.0 ≤ most_power
  pub on_line_short_term : nat_abs bounds.on_line_short_term.0 ≤ most_power
  pub off_line_short_term : nat_abs bounds.off_line_short_term.0 ≤ most_power
