-- On-line, off-line or tripped (01, 'Before the rows', from 002, 3.1; 02, request 2), what is printed of it, and which of the
-- three are on-line.
use Rattle.std.specs.Prelude.{Bool, true, false, cond, ◌&&◌, ◌||◌, ℕ, leb, eqb, pos, neg_ℤ}
use Rattle.std.specs.Int.Signed.{le_z, lt_z}
use Rattle.market.specs.Bits.{committed, available, active_schedule}
use Rattle.market.specs.Case.{Resource}
use Rattle.market.specs.declared.Availability.{Availability}
use Rattle.market.specs.declared.Availability.TheVariants.{OnLine, OffLine, Tripped}

-- kind 1 alone, even with a closed breaker and output
unfoldable pub has_tripped : Resource → Bool
has_tripped r = eqb r.kind 1 && leb r.trip 15

abbrev pub closed : Resource → Bool
closed r = eqb r.breaker 1

-- what 01 asks of each kind, its trip minutes left to `has_tripped`
unfoldable pub running : Resource → Bool
running r =
    (eqb r.kind 1 && (le_z (pos 500) r.output || le_z r.output (neg_ℤ (pos 500))) && closed r)
    || (eqb r.kind 2 && committed r.status && closed r && lt_z (pos 0) r.output)
    || (eqb r.kind 3 && available r.status && closed r && active_schedule r.status)

unfoldable pub availability_of : Resource → Availability
availability_of r = cond (has_tripped r) Tripped (cond (running r) OnLine OffLine)

-- what is printed for on-line
abbrev pub on_line_figure : Availability → ℕ
on_line_figure OnLine = 1
on_line_figure OffLine = 0
on_line_figure Tripped = 0

-- on-line, and neither of the other two
abbrev pub is_on_line : Availability → Bool
is_on_line OnLine = true
is_on_line OffLine = false
is_on_line Tripped = false

unfoldable pub on_line : Resource → Bool
on_line r = is_on_line (availability_of r)
