-- 13 and 14 with their places: the first quantity above its bound, the first row that is broken.
use mathlib.Core.Path.{◌≡◌, refl, sym, ap}
use mathlib.Core.Bool.{Bool, true, false, not}
use mathlib.Core.List.{List, [], ◌∷◌, ◌++◌}
use mathlib.Core.Logic.Iff
use mathlib.Core.Logic.{◌↔◌}
use Prim.Native.Nat.{ℕ, suc}
use lib.Dec.{T, eqb, eqb_refl}
use Rattle.arith.specs.Sums.{Each, all}
use Rattle.arith.proofs.Lists.{each_join, each_split}
use Rattle.arith.proofs.AllTests.{and_split}
use Rattle.market.specs.declared.Refusal.{Refusal}
use Rattle.market.specs.declared.Refusal.TheVariants.{AboveBound, RowBroken}
use Rattle.market.specs.Case.{Case}
use Rattle.market.specs.CaseFile.{case_of}
use Rattle.market.specs.UpperBounds.{quantities}
use Rattle.market.specs.Rows.{rows}
use Rattle.market.specs.Certificate.{Certificate, certificate_of}
use Rattle.market.specs.Refusals.{Finding, clear, holds, unless, number_of, first_failing, first_of, FirstHolds, AllClear}
use Rattle.market.specs.Outcome.{Valid, case_grounds, form_grounds, price_ground, bound_ground, row_ground, certificate_grounds, grounds, grounds_to11, grounds_to12, grounds_to13, within_bound, row_met}
use Rattle.market.specs.RefusedExactly.{AboveBoundAt, RowBrokenAt, PlacesExactly}
use Rattle.market.proofs.Grounds.{not_clear, holds_first}
use Rattle.market.proofs.GroundTests.{Test, findings}
use Rattle.market.proofs.Passed.{tests_to12, tests_to_12}
use Rattle.market.proofs.FirstAt.{first_failing_at, bounds_tested, rows_tested}

-- ---- grounds that do not refuse by number n
unfoldable pub other_number : ℕ → Refusal → Bool
other_number n r = not (eqb (number_of r) n)

abbrev Other : ℕ → Finding → Type 0
Other n clear = Unit {0}
Other n (holds r) = T (other_number n r)

abbrev pub other_tests : ℕ → List Test → Bool
other_tests n ts = all (λ t. other_number n t.refusal) ts

others : (n : ℕ) (ts : List Test) → T (other_tests n ts) → Each (Other n) (findings ts)
unfolding all
others n [] h = tt
others n (t ∷ ts) h = let s = and_split (other_number n t.refusal) (other_tests n ts) h in (go t.passes s.0, others n ts s.1)
  where
    go : (p : Bool) → T (other_number n t.refusal) → Other n (unless p t.refusal)
    go true k = tt
    go false k = k

other_failing : {A : Type 0} (k : ℕ) (f : A → Bool) (name : ℕ → Refusal) → ((p : ℕ) → T (other_number k (name p))) → (n : ℕ) (xs : List A) → Other k (first_failing f name n xs)
unfolding first_failing
other_failing k f name other n [] = tt
other_failing k f name other n (x ∷ xs) = go (f x) (other_failing k f name other (suc n) xs)
  where
    go : (t : Bool) → Other k (first_failing f name (suc n) xs) → Other k (elim t [ true ↦ first_failing f name (suc n) xs | false ↦ holds (name n) ])
    go true h = h
    go false h = other n

-- ---- what holds first with this number is the one ground that can
module _ (r : Refusal) where
  other_than : {A : Type 0} (s : Refusal) → T (other_number (number_of r) s) → holds s ≡ holds r → A
  unfolding other_number
  other_than s h e = absurd (own (number_of r) (let k : s ≡ r = cc in rw k at h))
    where
      own : (n : ℕ) → T (not (eqb n n)) → T false
      own n t = go (eqb n n) (eqb_refl n) t
        where
          go : (b : Bool) → T b → T (not b) → T false
          go true u v = v
          go false u v = u

  none_other : {A : Type 0} (gs : List Finding) → Each (Other (number_of r)) gs → first_of gs ≡ holds r → A
  unfolding first_of
  none_other [] u h = not_clear r (sym h)
  none_other (clear ∷ gs) u h = none_other gs u.1 h
  none_other (holds s ∷ gs) u h = other_than s u.0 h

  only_there : (before : List Finding) (g : Finding) (after : List Finding) → Each (Other (number_of r)) before → Each (Other (number_of r)) after →
      first_of (before ++ (g ∷ after)) ≡ holds r → AllClear before × (g ≡ holds r)
  unfolding first_of
  only_there [] clear after u v h = none_other after v h
  only_there [] (holds s) after u v h = (tt, h)
  only_there (clear ∷ gs) g after u v h = let t = only_there gs g after u.1 v h in ((refl, t.0), t.1)
  only_there (holds s ∷ gs) g after u v h = other_than s u.0 h

  only_this : (before : List Finding) (g : Finding) (after : List Finding) → Each (Other (number_of r)) before → Each (Other (number_of r)) after →
      FirstHolds (before ++ (g ∷ after)) r ↔ (AllClear before × (g ≡ holds r))
  only_this before g after u v = (
    (λ h. only_there before g after u v (holds_first (before ++ (g ∷ after)) r h)),
    (λ h. record { earlier = before; later = after; are = ap (λ (f : Finding). before ++ (f ∷ after)) h.1; clear_before = h.0 }),
  )

module _ (b q : List ℕ) where
  abbrev c : Case
  c = case_of b

  abbrev k : Certificate
  k = certificate_of q

  -- past 1 to 12 the case is valid
  valid_to_12 : AllClear (grounds_to12 b q) → Valid b
  unfolding grounds_to11 grounds_to12
  valid_to_12 h = (each_split (λ g. g ≡ clear) (case_grounds b) (form_grounds c q k) (each_split (λ g. g ≡ clear) (grounds_to11 b q) (price_ground c k ∷ []) h).0).0

  pub above_valid : (p : ℕ) → AboveBoundAt b q p → Valid b
  above_valid p h = valid_to_12 h.none_earlier

  pub broken_valid : (p : ℕ) → RowBrokenAt b q p → Valid b
  unfolding grounds_to13
  broken_valid p h = valid_to_12 (each_split (λ g. g ≡ clear) (grounds_to12 b q) (bound_ground c k ∷ []) h.none_earlier).0

  -- where no test up to 12 refuses by this number, no ground does
  others_to_12 : (n : ℕ) → T (other_tests n (tests_to12 b q)) → Each (Other n) (grounds_to12 b q)
  others_to_12 n h = rw (tests_to_12 b q) (others n (tests_to12 b q) h)

  -- and tests after 14
  module _ (later : List Test) (not-13 : T (other_tests 13 later)) (not-14 : T (other_tests 14 later)) where
    pub above_bound_at : (p : ℕ) → FirstHolds (grounds b q ++ findings later) (AboveBound p) ↔ AboveBoundAt b q p
    unfolding all other_number case_grounds form_grounds certificate_grounds grounds_to11 grounds_to12
    above_bound_at p =
        let this = only_this (AboveBound p) (grounds_to12 b q) (bound_ground c k) (row_ground c k ∷ findings later) (others_to_12 13 tt) (other_failing 13 (row_met c k) RowBroken (λ n. tt) 1 (rows c), others 13 later not-13) in
        let at = first_failing_at (bounds_tested c k) AboveBound (λ m n e. cc) 1 p (quantities c) in
        ((λ h. let t = this.0 h in record { none_earlier = t.0; first_above = at.0 t.1 }), (λ h. this.1 (h.none_earlier, at.1 h.first_above)))

    pub row_broken_at : (p : ℕ) → FirstHolds (grounds b q ++ findings later) (RowBroken p) ↔ RowBrokenAt b q p
    unfolding all other_number case_grounds form_grounds certificate_grounds grounds_to11 grounds_to12 grounds_to13
    row_broken_at p =
        let before = each_join (Other 14) (grounds_to12 b q) (bound_ground c k ∷ []) (others_to_12 14 tt) (other_failing 14 (within_bound c k) AboveBound (λ n. tt) 1 (quantities c), tt) in
        let this = only_this (RowBroken p) (grounds_to13 b q) (row_ground c k) (findings later) before (others 14 later not-14) in
        let at = first_failing_at (rows_tested c k) RowBroken (λ m n e. cc) 1 p (rows c) in
        ((λ h. let t = this.0 h in record { none_earlier = t.0; first_broken = at.0 t.1 }), (λ h. this.1 (h.none_earlier, at.1 h.first_broken)))

-- ---- of an operation whose grounds begin with 1 to 14
pub places : {A : Type 0} (b q : List ℕ) (later : List Test) → T (other_tests 13 later) → T (other_tests 14 later)
    → {answer : A} {refused : Refusal → A} → ((r : Refusal) → (answer ≡ refused r) ↔ FirstHolds (grounds b q ++ findings later) r) → PlacesExactly b q answer refused
places b q later u v h =
    record {
      above_bound = λ p. Iff.trans (h (AboveBound p)) (above_bound_at b q later u v p);
      row_broken = λ p. Iff.trans (h (RowBroken p)) (row_broken_at b q later u v p);
    }
