-- Lists of grounds: what it says of each that the first that holds is none, or is this one.
use Rattle.std.specs.Prelude.{Ok}
use mathlib.Core.Path.{◌≡◌, refl, sym, ◌∙◌, ap, subst}
use mathlib.Core.Bool.{Bool, true, false}
use mathlib.Core.List.{List, [], ◌∷◌, ◌++◌}
use Prim.Native.Nat.{ℕ, suc}
use native.Mathlib.Omega.{arith}
use lib.Dec.{T}
use lib.IntN.{ℤ, pos}
use lib.Signed.{le_z}
use Rattle.arith.specs.Sums.{Each}
use Rattle.arith.proofs.Order.{≤ℤ-antisymm}
use Rattle.arith.proofs.AllTests.{and_split}
use Rattle.market.specs.declared.Refusal.{Refusal}
use Rattle.market.specs.Rows.{Sense, equal, at_least, Meets}
use Rattle.market.specs.Refusals.{answered, Finding, clear, holds, unless, first_failing, first_of, FirstHolds, AllClear}
use Rattle.market.specs.Outcome.{meets}
use Rattle.market.proofs.FirstFailing.{or_else}

pub not_clear : {A : Type 0} (r : Refusal) → holds r ≡ clear → A
not_clear r h = absurd (let z : ◌≡◌ {A = ℕ} 0 1 = cc in omega arith)

-- ---- none holds
pub none_holds : (gs : List Finding) → first_of gs ≡ clear → AllClear gs
unfolding first_of
none_holds [] h = tt
none_holds (clear ∷ gs) h = (refl, none_holds gs h)
none_holds (holds r ∷ gs) h = not_clear r h

pub all_clear : (gs : List Finding) → AllClear gs → first_of gs ≡ clear
unfolding first_of
all_clear [] h = refl
all_clear (clear ∷ gs) h = all_clear gs h.1
all_clear (holds r ∷ gs) h = not_clear r h.0

-- ---- this one is the first that holds
pub first_holds : (gs : List Finding) (r : Refusal) → first_of gs ≡ holds r → FirstHolds gs r
unfolding first_of
first_holds [] r h = not_clear r (sym h)
first_holds (clear ∷ gs) r h =
    let t = first_holds gs r h in
    record { earlier = clear ∷ t.earlier; later = t.later; are = ap (λ (l : List Finding). clear ∷ l) t.are; clear_before = (refl, t.clear_before) }
first_holds (holds s ∷ gs) r h = record { earlier = []; later = gs; are = ap (λ (f : Finding). f ∷ gs) h; clear_before = tt }

after_clear : (earlier later : List Finding) (r : Refusal) → Each (λ g. g ≡ clear) earlier → first_of (earlier ++ (holds r ∷ later)) ≡ holds r
unfolding first_of
after_clear [] later r h = refl
after_clear (clear ∷ gs) later r h = after_clear gs later r h.1
after_clear (holds s ∷ gs) later r h = not_clear s h.0

pub holds_first : (gs : List Finding) (r : Refusal) → FirstHolds gs r → first_of gs ≡ holds r
holds_first gs r h = rw h.are (after_clear h.earlier h.later r h.clear_before)

-- ---- one list behind another
pub first_of_append : (gs hs : List Finding) → first_of (gs ++ hs) ≡ or_else (first_of gs) (first_of hs)
unfolding first_of
first_of_append [] hs = refl
first_of_append (clear ∷ gs) hs = first_of_append gs hs
first_of_append (holds r ∷ gs) hs = refl

module _ (gs hs : List Finding) where
  pub first_later : first_of gs ≡ clear → first_of (gs ++ hs) ≡ first_of hs
  first_later h = first_of_append gs hs ∙ ap (λ (f : Finding). or_else f (first_of hs)) h

  pub first_earlier : (r : Refusal) → first_of gs ≡ holds r → first_of (gs ++ hs) ≡ holds r
  first_earlier r h = first_of_append gs hs ∙ ap (λ (f : Finding). or_else f (first_of hs)) h

  pub earlier_clear : first_of (gs ++ hs) ≡ clear → first_of gs ≡ clear
  earlier_clear h = go (first_of gs) (first_of hs) (sym (first_of_append gs hs) ∙ h)
    where
      go : (f g : Finding) → or_else f g ≡ clear → f ≡ clear
      go clear g e = refl
      go (holds r) g e = e

pub first_of_one : (g : Finding) → first_of (g ∷ []) ≡ g
unfolding first_of
first_of_one clear = refl
first_of_one (holds r) = refl

-- ---- single grounds
pub unless_clear : (t : Bool) (r : Refusal) → unless t r ≡ clear → T t
unless_clear true r h = tt
unless_clear false r h = not_clear r h

pub clear_unless : (t : Bool) (r : Refusal) → T t → unless t r ≡ clear
clear_unless true r h = refl
clear_unless false r h = absurd h

module _ {A : Type 0} (f : A → Bool) (r : ℕ → Refusal) where
  pub none_fails : (n : ℕ) (xs : List A) → first_failing f r n xs ≡ clear → Each (λ x. T (f x)) xs
  unfolding first_failing
  none_fails n [] h = tt
  none_fails n (x ∷ xs) h = go (none_fails (suc n) xs) (f x) refl h
    where
      go : (first_failing f r (suc n) xs ≡ clear → Each (λ a. T (f a)) xs) → (t : Bool) → f x ≡ t →
          ◌≡◌ {A = Finding} (elim t [ true ↦ first_failing f r (suc n) xs | false ↦ holds (r n) ]) clear → T (f x) × Each (λ a. T (f a)) xs
      go rest true e k = (subst T (sym e) tt, rest k)
      go rest false e k = not_clear (r n) k

pub meets_Meets : (s : Sense) (v : ℤ) → T (meets s v) → Meets s v
meets_Meets equal v h = let r = and_split (le_z (pos 0) v) (le_z v (pos 0)) h in ≤ℤ-antisymm (record { le = r.1 }) (record { le = r.0 })
meets_Meets at_least v h = record { le = h }

pub Meets_meets : (s : Sense) (v : ℤ) → Meets s v → T (meets s v)
Meets_meets equal v h = rw h tt
Meets_meets at_least v h = h.le

-- an answer of success: no ground holds, and the value is the answer's
module _ {A : Type 0} where
  pub answered_ok : (value v : A) (f : Finding) → answered value f ≡ Ok v → (f ≡ clear) × (value ≡ v)
  answered_ok value v clear e = (refl, cc)
  answered_ok value v (holds r) e = (cc, cc)
