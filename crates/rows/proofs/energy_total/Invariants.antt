use mathlib.Core.Path.{◌≡◌}
use Rattle.arith.specs.Sums.{sum_of, upto}
use Rattle.market.specs.UpperBounds.{energy}
use Rattle.market.specs.Certificate.{certificate_of}
use Rattle.market.specs.InWords.{kw_of}
use Rattle.market.specs.Records.{kw}
use Rattle.rows.proofs.energy_total.Given as goal

abbrev pub invariant-loop-i : goal.invariant-loop-i
invariant-loop-i l = l.sum ≡ kw (sum_of (λ j. kw_of (certificate_of l.certificate.bytes.now).amount j energy) (upto l.i))
