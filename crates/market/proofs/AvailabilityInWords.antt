-- On-line, off-line and tripped kind by kind; with them the limits and the upper bounds.
use mathlib.Core.Logic.{◌⊎◌, inl, inr}
use mathlib.Core.Path.{◌≡◌, refl}
use Prim.Native.Nat.{◌≤◌}
use native.Mathlib.Omega.{arith}
use lib.IntN.{pos}
use lib.Signed.{◌<ℤ◌}
use Rattle.market.specs.Case.{Resource}
use Rattle.market.specs.Availability.{availability_of, on_line}
use Rattle.market.specs.UpperBounds.{upper_bound}
use Rattle.market.specs.AvailabilityInWords.{BitSet, Closed, AtLeast500, OnLineInWords, TrippedInWords, OffLineInWords, OneOfTwo, AvailabilityInWords}
use Rattle.market.proofs.AvailabilityTests.{Running, tripped_asks, on_line_asks, off_line_asks, above_15}
use Rattle.market.proofs.BoundsInWords.{bounds_in_words, spin_in_words, sells_nothing}
use Rattle.market.proofs.LimitsInWords.{limits_in_words}
use Rattle.market.proofs.OneOfThree.{on_line_true, on_line_false}

-- ---- kind by kind
of_conventional : (r : Resource) → r.kind ≡ 1 → Running r → AtLeast500 r × Closed r
of_conventional r e (inl (inl h)) = (h.0.1, h.1)
of_conventional r e (inl (inr h)) = absurd (omega (arith, h.0.0.0))
of_conventional r e (inr h) = absurd (omega (arith, h.0.0.0))

of_intermittent : (r : Resource) → r.kind ≡ 2 → Running r → BitSet 1 r.status × Closed r × (pos 0 <ℤ r.output)
of_intermittent r e (inl (inl h)) = absurd (omega (arith, h.0.0))
of_intermittent r e (inl (inr h)) = (h.0.0.1, h.0.1, h.1)
of_intermittent r e (inr h) = absurd (omega (arith, h.0.0.0))

of_external : (r : Resource) → r.kind ≡ 3 → Running r → BitSet 2 r.status × Closed r × BitSet 4 r.status
of_external r e (inl (inl h)) = absurd (omega (arith, h.0.0))
of_external r e (inl (inr h)) = absurd (omega (arith, h.0.0.0))
of_external r e (inr h) = (h.0.0.1, h.0.1, h.1)

of_kinds : (r : Resource) → Running r → (1 ≤ r.kind) × (r.kind ≤ 3)
of_kinds r (inl (inl h)) = omega (arith, h.0.0)
of_kinds r (inl (inr h)) = omega (arith, h.0.0.0)
of_kinds r (inr h) = omega (arith, h.0.0.0)

on_line_in_words : (r : Resource) → OnLineInWords r
on_line_in_words r =
    let asks = on_line_asks r in
    record {
      conventional = λ e. (
        λ o. let of = of_conventional r e (asks.0 o).1 in (of.0, of.1, above_15 r e (asks.0 o).0),
        λ h. asks.1 (λ t. omega (arith, t.1, h.2), inl (inl ((e, h.0), h.1))),
      );
      intermittent = λ e. (
        λ o. of_intermittent r e (asks.0 o).1,
        λ h. asks.1 (λ t. omega (arith, e, t.0), inl (inr (((e, h.0), h.1), h.2))),
      );
      external = λ e. (
        λ o. of_external r e (asks.0 o).1,
        λ h. asks.1 (λ t. omega (arith, e, t.0), inr (((e, h.0), h.1), h.2)),
      );
      no_other_kind = λ o. of_kinds r (asks.0 o).1;
    }

tripped_in_words : (r : Resource) → TrippedInWords r
unfolding on_line
tripped_in_words r =
    record {
      tripped = tripped_asks r;
      of_kind_1 = λ e. other_kind ((tripped_asks r).0 e).0;
      tripped_not_on_line = λ e. rw e;
    }
  where
    other_kind : r.kind ≡ 1 → (r.kind ≡ 2) ⊎ (r.kind ≡ 3) → ⊥
    other_kind e (inl k) = omega (arith, e, k)
    other_kind e (inr k) = omega (arith, e, k)

off_line_in_words : (r : Resource) → OffLineInWords r
off_line_in_words r =
    let asks = off_line_asks r in
    record {
      neither = (
        λ e. (λ o. (asks.0 e).1 ((on_line_asks r).0 o).1, λ t. (asks.0 e).0 ((tripped_asks r).0 t)),
        λ h. asks.1 (λ t. h.1 ((tripped_asks r).1 t), λ u. h.0 ((on_line_asks r).1 (λ t. h.1 ((tripped_asks r).1 t), u))),
      );
      conventional = λ e. (
        λ o. (λ h. (asks.0 o).1 (inl (inl ((e, h.0), h.1))), above_15 r e (asks.0 o).0),
        λ h. asks.1 (λ t. omega (arith, t.1, h.1), λ u. h.0 (of_conventional r e u)),
      );
      intermittent = λ e. (
        λ o h. (asks.0 o).1 (inl (inr (((e, h.0), h.1), h.2))),
        λ h. asks.1 (λ t. omega (arith, e, t.0), λ u. h (of_intermittent r e u)),
      );
      external = λ e. (
        λ o h. (asks.0 o).1 (inr (((e, h.0), h.1), h.2)),
        λ h. asks.1 (λ t. omega (arith, e, t.0), λ u. h (of_external r e u)),
      );
    }

-- ---- where two suffice
one_of_two : (r : Resource) → OneOfTwo r
unfolding on_line
one_of_two r = record { is_on_line = on_line_true (availability_of r); is_not_on_line = on_line_false (availability_of r) }

pub availability_in_words : AvailabilityInWords
unfolding upper_bound
availability_in_words =
    record {
      on_line = on_line_in_words;
      tripped = tripped_in_words;
      off_line = off_line_in_words;
      one_of_two = one_of_two;
      limits = limits_in_words;
      bounds = bounds_in_words;
      spin = spin_in_words;
      bound_of_provided = λ c i s. refl;
      bound_of_cleared = λ c k. refl;
      sells_nothing = sells_nothing;
    }
