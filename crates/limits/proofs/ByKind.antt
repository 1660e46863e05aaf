-- market's `availability_of` by its parts, of a record's state.
use Rattle.std.specs.Prelude.{◌⊎◌, ◌≢◌}
use Rattle.std.proofs.Common.{inl, inr}
use Rattle.std.proofs.lemmas.Bool.Decides.{eqb_tells}
use mathlib.Core.Path.{◌≡◌, refl, sym, ap, ◌∙◌}
use mathlib.Core.Bool.{Bool, true, false, not, cond, true≢false, ◌&&◌, ◌||◌}
use Prim.Native.Nat.{ℕ}
use lib.Dec.{T, eqb, eqb→eq}
use Rattle.market.specs.Case.{Resource as Figures}
use Rattle.market.specs.Availability.{has_tripped, running, availability_of, is_on_line, on_line}
use Rattle.market.specs.Records.{state_of}
use Rattle.market.specs.Kinds.{kind_of, is_conventional, is_intermittent, is_external, breaker_of, is_closed}
use Rattle.market.specs.declared.Kind.TheVariants.{Intermittent, External, Unknown}
use Rattle.market.specs.declared.Breaker.TheVariants as B
use Rattle.market.specs.declared.Availability.{Availability}
use Rattle.market.specs.declared.Availability.TheVariants.{OnLine, OffLine, Tripped}
use Rattle.market.specs.declared.State.{State}
use Rattle.market.proofs.StatusBits.{committed_kept, available_kept, active_schedule_kept}
use Rattle.limits.specs.ByKind.{conventional_tripped, conventional_runs, intermittent_runs, external_runs}

-- tripped is asked of conventional resources alone, so it may be asked after the other kinds
abbrev pub kinds_first : Bool → Bool → Bool → Bool → Availability
kinds_first trips conventional intermittent external = cond ((conventional && not trips) || intermittent || external) OnLine (cond trips Tripped OffLine)

abbrev trip_first : Bool → Bool → Bool → Bool → Availability
trip_first trips conventional intermittent external = cond trips Tripped (cond (conventional || intermittent || external) OnLine OffLine)

either_order : (t c i x : Bool) → (t ≡ true → (i || x) ≡ false) → kinds_first t c i x ≡ trip_first t c i x
either_order false true i x h = refl
either_order false false i x h = refl
either_order true c true x h = absurd (true≢false (h refl))
either_order true c false true h = absurd (true≢false (h refl))
either_order true true false false h = refl
either_order true false false false h = refl

first_true : (t u : Bool) → (t && u) ≡ true → T t
first_true true u e = tt
first_true false u e = absurd (true≢false (sym e))

-- what is read of a kind's number, and of a breaker's
conventional_read : (k : ℕ) → is_conventional (kind_of k) ≡ eqb k 1
conventional_read k = elim (eqb_tells k 1) [ inl w ↦ rw w.1 | inr w ↦ rw w.0 (others (eqb k 2) (eqb k 3)) ]
  where
    others : (two three : Bool) → is_conventional (cond two Intermittent (cond three External (Unknown k))) ≡ false
    others true three = refl
    others false true = refl
    others false false = refl

intermittent_read : (k : ℕ) → is_intermittent (kind_of k) ≡ eqb k 2
intermittent_read k = elim (eqb_tells k 1) [ inl w ↦ rw w.1 | inr w ↦ rw w.0 (others (eqb k 2) (eqb k 3)) ]
  where
    others : (two three : Bool) → is_intermittent (cond two Intermittent (cond three External (Unknown k))) ≡ two
    others true three = refl
    others false true = refl
    others false false = refl

external_read : (k : ℕ) → is_external (kind_of k) ≡ eqb k 3
external_read k = elim (eqb_tells k 1) [ inl w ↦ rw w.1 | inr w ↦ rw w.0 (not_one (eqb_tells k 2)) ]
  where
    others : (three : Bool) → is_external (cond three External (Unknown k)) ≡ three
    others true = refl
    others false = refl

    not_one : ((eqb k 2 ≡ true) × (k ≡ 2)) ⊎ ((eqb k 2 ≡ false) × (k ≢ 2)) → is_external (cond (eqb k 2) Intermittent (cond (eqb k 3) External (Unknown k))) ≡ eqb k 3
    not_one (inl w) = rw w.1
    not_one (inr w) = rw w.0 (others (eqb k 3))

closed_read : (n : ℕ) → is_closed (breaker_of n) ≡ eqb n 1
closed_read n = elim (eqb_tells n 0) [ inl w ↦ rw w.1 | inr w ↦ rw w.0 (others (eqb n 1)) ]
  where
    others : (closed : Bool) → is_closed (cond closed B.Closed (B.Unknown n)) ≡ closed
    others true = refl
    others false = refl

tripped_alone : (k : ℕ) (u a b c d e f : Bool) → (eqb k 1 && u) ≡ true → (eqb k 2 && a && b && c || eqb k 3 && d && e && f) ≡ false
tripped_alone k u a b c d e f h = rw (eqb→eq k 1 (first_true (eqb k 1) u h))

module _ {t : State} (s : Figures) (e : t ≡ state_of s) where
  abbrev of_state : State → Availability
  of_state state = kinds_first (conventional_tripped state) (conventional_runs state) (intermittent_runs state) (external_runs state)

  trip_asked_first : trip_first (conventional_tripped (state_of s)) (conventional_runs (state_of s)) (intermittent_runs (state_of s)) (external_runs (state_of s)) ≡ availability_of s
  unfolding availability_of has_tripped running state_of conventional_tripped conventional_runs intermittent_runs external_runs
  trip_asked_first = rw (conventional_read s.kind, intermittent_read s.kind, external_read s.kind, closed_read s.breaker, committed_kept s.status, available_kept s.status, active_schedule_kept s.status)

  alone : conventional_tripped (state_of s) ≡ true → (intermittent_runs (state_of s) || external_runs (state_of s)) ≡ false
  unfolding state_of conventional_tripped intermittent_runs external_runs
  alone h = rw (intermittent_read s.kind, external_read s.kind) (tripped_alone s.kind _ _ _ _ _ _ _ (rw (conventional_read s.kind) at h))

  -- the tests, in the order in which the code makes them
  pub by_kinds : {trips conventional intermittent external : Bool}
      → trips ≡ conventional_tripped t → conventional ≡ conventional_runs t → intermittent ≡ intermittent_runs t → external ≡ external_runs t
      → kinds_first trips conventional intermittent external ≡ availability_of s
  by_kinds ht hc hi hx =
      rw (ht, hc, hi, hx)
      (ap of_state e
      ∙ either_order (conventional_tripped (state_of s)) (conventional_runs (state_of s)) (intermittent_runs (state_of s)) (external_runs (state_of s)) alone
      ∙ trip_asked_first)

-- whether a resource is on-line, asked of what it is
pub on_line_is : (s : Figures) {a : Availability} {on : Bool} → a ≡ availability_of s → on ≡ is_on_line a → on ≡ on_line s
unfolding on_line
on_line_is s ha ho = ho ∙ ap is_on_line ha
