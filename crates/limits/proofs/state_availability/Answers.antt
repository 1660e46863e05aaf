use mathlib.Core.Path.{◌≡◌}
use Rattle.market.specs.Case.{Resource as Figures}
use Rattle.market.specs.Availability.{availability_of}
use Rattle.market.specs.Records.{state_of}
use Rattle.limits.proofs.ByKind.{kinds_first, by_kinds}
use Rattle.limits.proofs.state_availability.Goals as goal
use Rattle.limits.proofs.state_availability.Goals.{After-external}

decided : (c : After-external) (s : Figures) → c.args.t ≡ state_of s
    → kinds_first c.tripped-trips.result c.conventional.result c.intermittent.result c.external.result ≡ availability_of s
decided c s e = by_kinds s e c.tripped-trips.ensures c.conventional.ensures c.intermittent.ensures c.external.ensures

pub returns-then-on : goal.returns-then-on
returns-then-on c = λ s e. rw c.if-on.true at (decided (goal.at.returns-then-on c).After-external s e)

pub returns-then-trips : goal.returns-then-trips
returns-then-trips c = λ s e. rw (c.if-on.false, c.if-trips.true) at (decided (goal.at.returns-then-trips c).After-external s e)

pub returns : goal.returns
returns c = λ s e. rw (c.if-on.false, c.if-trips.false) at (decided (goal.at.returns c).After-external s e)
