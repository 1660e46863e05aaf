use mathlib.Core.Path.{◌≡◌}
use Rattle.flows.specs.Parts.{high_of, low_of}
use Rattle.flows.proofs.PartSums.{flow_from}
use Rattle.prices.specs.PricedCase.{case_bytes, certificate_bytes}
use Rattle.flows.proofs.flow.Given as goal

abbrev pub invariant-loop-i : goal.invariant-loop-i
invariant-loop-i l = (l.highs ≡ flow_from high_of (case_bytes l.energies.bounded.priced) (certificate_bytes l.energies.bounded.priced) l.g l.i) × (l.lows ≡ flow_from low_of (case_bytes l.energies.bounded.priced) (certificate_bytes l.energies.bounded.priced) l.g l.i)
