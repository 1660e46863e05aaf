-- The wrong turns of 01, and that the promise is not an empty one: K's.
use Prim.Native.Nat.{ℕ, suc, ◌*◌, ◌/◌, ◌<◌, ◌≤◌}
use native.Mathlib.Nat.{div-add-mod', mod-lt}
use native.Mathlib.Omega.{arith}
use lib.IntN.{pos, +ℤ_idr}
use Rattle.arith.specs.Sums.{sum_of, upto}
use Rattle.market.specs.Limits.{max_of, min_of}
use Rattle.market.specs.UpperBounds.{ramp_of, share_of}
use Rattle.market.specs.Rows.{none, entries, spins, in_reserve}
use Rattle.market.specs.Prices.{lmp_of}
use Rattle.market.specs.Interval.{worked_k, worked_q}
use Rattle.market.specs.Promise.{Promise}
use Rattle.market.specs.WrongTurns.{WrongTurns}
use Rattle.market.proofs.Accepted.{demand3}
use Rattle.market.proofs.Computed.{worked_k_accepted}

-- a quotient by a number above 0, rounded down
rounded_down : (a m : ℕ) → 0 < m → (a / m * m ≤ a) × (a < suc (a / m) * m)
rounded_down a m h = omega (arith, div-add-mod' a m, mod-lt a h)

pub wrong_turns : WrongTurns
unfolding max_of min_of none entries spins in_reserve lmp_of sum_of upto ramp_of share_of
wrong_turns =
    record {
      off_line_never_spins = λ r e. rw e;
      emergency_maximum_first = λ r e h. rw (e, h);
      emergency_minimum_first = λ r e h. rw (e, h);
      flowgate_sign = λ c y i e. rw (e, +ℤ_idr);
      ramp_rounded_once = λ c p r h. rounded_down (r.ramp_rate * c.minutes p * 1000) (c.multiplier p) h;
      share_rounded_once = λ c p. rounded_down (c.share p * c.requirement p) 1000 (omega arith);
    }

pub worked_k_promise : Promise worked_k worked_q (pos 140000000000) (pos 140000000000) (pos 0)
worked_k_promise = demand3 worked_k worked_q (pos 140000000000) (pos 140000000000) (pos 0) worked_k_accepted
