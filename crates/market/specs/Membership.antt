-- The lists that ask for the version, by membership: each has those of all that a version may have which this one has, in their order.
use Rattle.std.specs.Prelude.{◌≡◌}
use Rattle.arith.specs.Sums.{kept}
use Rattle.market.specs.Version.{Version}
use Rattle.market.specs.Case.{all_curves, has_curve, zoned, zoned_curves, curves}
use Rattle.market.specs.UpperBounds.{all_services, has_service, services}
use Rattle.market.specs.Rows.{all_limits, has_limit, limits}

pub record Membership : Type 0 where
  pub zoned_kept : zoned_curves ≡ kept zoned all_curves
  pub curves_kept : (version : Version) → curves version ≡ kept (has_curve version) all_curves
  pub services_kept : (version : Version) → services version ≡ kept (has_service version) all_services
  pub limits_kept : (version : Version) → limits version ≡ kept (has_limit version) all_limits
