-- How large a resource's limits are, and what it can provide of each service.
use mathlib.Core.Bool.{Bool, true, false, cond, ◌||◌}
use Prim.Native.Nat.{ℕ, ◌≤◌}
use native.Mathlib.Omega.{arith}
use lib.IntN.{ℤ}
use Rattle.arith.proofs.Magnitudes.{Size, size_nat}
use Rattle.market.specs.Bits.{regulating_flag, spinning_flag, on_line_supplemental, off_line_supplemental_flag, off_line_short_term_flag, on_line_short_term_flag, emergency_maximum_flag, emergency_minimum_flag, self_scheduled_flag}
use Rattle.market.specs.Case.{Case, Resource, Reserve, regulating_reserve, contingency_reserve, short_term_reserve}
use Rattle.market.specs.Availability.{availability_of, on_line}
use Rattle.market.specs.Limits.{max_of, min_of, hi_of, lo_of}
use Rattle.market.specs.UpperBounds.{Service, energy, regulation, contingency, on_line_short_term, off_line_short_term, ramping_up, ramping_down, charging, on_line_bound, bound_when, service_bound}
use Rattle.market.specs.Rows.{high}
use Rattle.market.specs.Sizes.{most_power, most_limit, most_provided}
use Rattle.market.specs.declared.Availability.{Availability}
use Rattle.market.specs.declared.Availability.TheVariants.{OnLine, OffLine, Tripped}
use Rattle.market.proofs.Ranges.{ResourceRanges}
use Rattle.market.proofs.NaturalLimits.{minimum_of, high_of, low_of, minimum_is, high_is, low_is}

-- ---- by cases of a test
pub most_if : (t : Bool) {a b m : ℕ} → a ≤ m → b ≤ m → cond t a b ≤ m
most_if true h k = h
most_if false h k = k

pub size-if : (t : Bool) {a b : ℤ} {m : ℕ} → Size a m → Size b m → Size (cond t a b) m
size-if true h k = h
size-if false h k = k

module _ {zones : ℕ} {r : Resource} (h : ResourceRanges zones r) where
  pub max_most : max_of r ≤ most_power
  unfolding max_of
  max_most = most_if (on_line r) (most_if (emergency_maximum_flag r.flags) h.emergency_max (most_if (regulating_flag r.flags) h.regulating_max h.economic_max)) h.economic_max

  min_most : minimum_of r ≤ most_power
  unfolding minimum_of
  min_most = most_if (on_line r) (most_if (emergency_minimum_flag r.flags) h.emergency_min (most_if (regulating_flag r.flags) h.regulating_min h.economic_min)) (omega arith)

  high_most : high_of r ≤ most_limit high
  unfolding high_of
  high_most = most_if (on_line r) (omega (arith, h.initial_to, h.ramp_up)) (omega (arith, h.economic_max))

  low_most : low_of r ≤ most_power
  unfolding low_of
  low_most = most_if (on_line r) (most_if (self_scheduled_flag r.flags) (omega (arith, h.initial_to, h.self_schedule)) (omega (arith, h.initial_to))) (omega arith)

  pub minimum_size : Size (min_of r) most_power
  minimum_size = rw (minimum_is r) (size_nat min_most)

  pub high_size : Size (hi_of r) (most_limit high)
  high_size = rw (high_is r) (size_nat high_most)

  pub low_size : Size (lo_of r) most_power
  low_size = rw (low_is r) (size_nat low_most)

  -- what it can provide of each service
  on_line_most : (c : Case) (p : Reserve) → on_line_bound c p r ≤ most_power
  unfolding on_line_bound
  on_line_most c p = omega (arith, max_most)

  when_most : (a : Availability) (c : Case) (s : Service) → bound_when a c r s ≤ most_provided s
  unfolding bound_when
  when_most OnLine c energy = h.widths_to
  when_most OnLine c regulation = most_if (regulating_flag r.flags) (on_line_most c regulating_reserve) (omega arith)
  when_most OnLine c contingency = most_if (spinning_flag r.flags || on_line_supplemental r.status) (on_line_most c contingency_reserve) (omega arith)
  when_most OnLine c on_line_short_term = most_if (on_line_short_term_flag r.flags) (on_line_most c short_term_reserve) (omega arith)
  when_most OnLine c off_line_short_term = omega arith
  when_most OnLine c ramping_up = omega arith
  when_most OnLine c ramping_down = omega arith
  when_most OnLine c charging = omega arith
  when_most OffLine c energy = omega arith
  when_most OffLine c regulation = omega arith
  when_most OffLine c contingency = most_if (off_line_supplemental_flag r.flags) (omega (arith, h.economic_max)) (omega arith)
  when_most OffLine c on_line_short_term = omega arith
  when_most OffLine c off_line_short_term = most_if (off_line_short_term_flag r.flags) (omega (arith, h.economic_max)) (omega arith)
  when_most OffLine c ramping_up = omega arith
  when_most OffLine c ramping_down = omega arith
  when_most OffLine c charging = omega arith
  when_most Tripped c s = omega arith

  pub service_most : (c : Case) (s : Service) → service_bound c r s ≤ most_provided s
  unfolding service_bound
  service_most = when_most (availability_of r)
