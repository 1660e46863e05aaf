use mathlib.Core.Path.{◌≡◌, ap, ◌∙◌}
use borrow.Author.Rules.{rules}
use lib.ListN.{length}
use Rattle.market.specs.Case.{energy_steps}
use Rattle.market.specs.Records.{power}
use Rattle.market.proofs.EnergyBounds.{energy_bound_is}
use Rattle.case_records.specs.Ranged.{offer_step}
use Rattle.limits.specs.Widths.{widths_of}
use Rattle.limits.proofs.Widths.{widths_same, offer_width_is}
use Rattle.limits.proofs.energy_bound.Goals as goal

pub returns : goal.returns
returns c = λ k s o e.
    let n : length c.args.offer.steps ≡ energy_steps = search rules in
    rw (energy_bound_is k s, ← o)
    (c.amount_if.ensures _ (c.total_width-together.ensures ∙ rw n (ap power (widths_same (widths_of (offer_step c.args.offer.steps)) s.step_width energy_steps (offer_width_is s e)))))
