use mathlib.Core.Path.{◌≡◌, ap, ◌∙◌}
use Prim.Native.Nat.{◌≤◌, min}
use native.Mathlib.Omega.{arith}
use lib.IntN.{nat_abs}
use Rattle.market.specs.Records.{kw, power}
use Rattle.market.specs.declared.Kw.{Kw}
use Rattle.costs.specs.Steps.{most_in_steps, filling_of}
use Rattle.costs.proofs.Filling.{step_part, left_after}
use Rattle.costs.proofs.fill.Goals as goal
use Rattle.costs.proofs.fill.Goals.{After-lesser-part}

part : (c : After-lesser-part) → c.lesser-part.result ≡ power (min (nat_abs c.args.width.0) (nat_abs c.args.left.0))
part c = step_part c.requires.0 c.requires.1 c.lesser-part.ensures.natural

pub difference-requires : goal.difference-requires
difference-requires c =
    let h = c.requires in
    let small : nat_abs c.lesser-part.result.0 ≤ most_in_steps = rw (part (goal.at.difference-requires c).After-lesser-part) (omega (arith, h.0.at_most)) in
    omega (arith, h.0.at_most, h.1.at_most, small)

pub returns : goal.returns
unfolding filling_of
returns c = λ i. record { part = part (goal.at.returns c).After-lesser-part i; left = (c.difference.ensures ∙ ap kw (left_after c.requires.0 c.requires.1 (ap (λ (p : Kw). p.0) (part (goal.at.returns c).After-lesser-part)))) i }
