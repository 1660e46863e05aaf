use Rattle.std.proofs.Common.{◌≡◌, ℕ, ◌*◌, ◌<◌, ◌≤◌}
use Rattle.market.specs.Case.{width_of}
use Rattle.case_soundness.proofs.Parts.{widths_at, prices_at}
use Rattle.case_soundness.proofs.Ranks.{rank_before, Rising}
use Rattle.case_soundness.proofs.offer_sound.Given as goal

abbrev pub invariant-loop-j : goal.invariant-loop-j
invariant-loop-j l = (l.last ≡ rank_before (widths_at l.resource.bytes.now l.resource.at) (prices_at l.resource.bytes.now l.resource.at) l.j) × (l.sum ≡ width_of (widths_at l.resource.bytes.now l.resource.at) l.j) × (l.sum ≤ l.j * 4294967295) × ((k : ℕ) → k < l.j → Rising (widths_at l.resource.bytes.now l.resource.at) (prices_at l.resource.bytes.now l.resource.at) k)
