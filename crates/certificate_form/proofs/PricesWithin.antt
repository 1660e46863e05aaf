-- The prices of a certificate's rows lie within its bytes.
use mathlib.Core.List.{List}
use Prim.Native.Nat.{ℕ, ◌+◌, ◌*◌, ◌<◌}
use native.Mathlib.Nat.{mul-le-mul_right}
use native.Mathlib.Omega.{arith}
use lib.ListN.{length}
use Rattle.market.specs.Version.{version_in}
use Rattle.market.specs.Case.{curves}
use Rattle.market.specs.UpperBounds.{services}
use Rattle.market.specs.Rows.{limits}
use Rattle.market.specs.Certificate.{market_prices_place, zone_prices_place, amounts_place, entry_size}
use Rattle.wire.specs.Within.{Within}
use Rattle.certificate_records.specs.CertificateBytes.{CertificateBytes}

module _ {q : List ℕ} {r z f : ℕ} (h : CertificateBytes q r z f) where
  pub market_prices_in : Within q (market_prices_place (version_in q)) (length (curves (version_in q)) * 4)
  market_prices_in = omega (arith, h.sized)

  pub flowgate_prices_in : Within q (zone_prices_place (version_in q) z) (f * 4)
  flowgate_prices_in = omega (arith, h.sized)

  pub limits_in : (i : ℕ) → i < r → Within q (amounts_place (version_in q) z f i + length (services (version_in q)) * 4) (length (limits (version_in q)) * 4)
  limits_in i l = omega (arith, h.sized, mul-le-mul_right (entry_size (version_in q)) l)
