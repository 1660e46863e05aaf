-- The parts of market's `availability_of` (01, 'Before the rows'; 02, request 2), each of a record's state: tripped, and what 01 asks of
-- each kind.
use Rattle.std.specs.Prelude.{Bool, ◌&&◌, ◌||◌, leb, ℤ, pos, neg_ℤ}
use Rattle.std.specs.Int.Signed.{le_z, lt_z}
use Rattle.market.specs.Bits.{committed, available, active_schedule}
use Rattle.market.specs.declared.State.{State}
use Rattle.market.specs.Kinds.{is_conventional, is_intermittent, is_external, is_closed}

unfoldable pub conventional_tripped : State → Bool
conventional_tripped state = is_conventional state.kind && leb state.trip.0 15

-- produces or takes at least 500 kW
abbrev pub at_least500 : ℤ → Bool
at_least500 output = le_z (pos 500) output || le_z output (neg_ℤ (pos 500))

unfoldable pub conventional_runs : State → Bool
conventional_runs state = is_conventional state.kind && at_least500 state.output.0 && is_closed state.breaker

unfoldable pub intermittent_runs : State → Bool
intermittent_runs state = is_intermittent state.kind && committed state.status.0 && is_closed state.breaker && lt_z (pos 0) state.output.0

unfoldable pub external_runs : State → Bool
external_runs state = is_external state.kind && available state.status.0 && is_closed state.breaker && active_schedule state.status.0
