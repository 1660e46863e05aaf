use Rattle.prices.specs.PricedCase.{case_bytes, certificate_bytes}
use Rattle.outcomes.proofs.Passing.{gap_room}
use Rattle.outcomes.proofs.valued.Goals as goal

pub difference-gap-requires : goal.difference-gap-requires
difference-gap-requires c =
    let s = c.args.kept.now.bounded in
    rw (c.cost-cost.ensures, c.bound-bound.ensures) (gap_room (case_bytes s.priced) (certificate_bytes s.priced) s.standing)
