use mathlib.Core.Path.{◌≡◌}
use Rattle.reserves.specs.Given.{market_total, zone_totals}
use Rattle.prices.specs.PricedCase.{case_bytes, certificate_bytes}
use Rattle.reserves.proofs.totals.Given as goal

abbrev pub invariant-loop-i : goal.invariant-loop-i
invariant-loop-i l = (l.market ≡ market_total (case_bytes l.kept.bounded.priced) (certificate_bytes l.kept.bounded.priced) l.i) × (l.zones ≡ zone_totals (case_bytes l.kept.bounded.priced) (certificate_bytes l.kept.bounded.priced) l.i)
