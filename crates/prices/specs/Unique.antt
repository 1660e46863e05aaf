-- That a case is valid, and what is said of each element of a list, have one proof at most: so a struct's ghost field can hold them.
use Rattle.std.specs.Prelude.{◌≡◌, List, [], ◌∷◌, ℕ, refl}
use Rattle.std.specs.Coded.{×_prop, Unit-prop, le_prop}
use mathlib.Core.HLevel.{⊥_prop}
use mathlib.Core.Path.{sym, ap, subst⁻¹, ◌∙◌, path_j'}
use denote.Struct.Props as logic
use Rattle.arith.specs.Sums.{Each}
use Rattle.market.specs.Case.{Case}
use Rattle.market.specs.UpperBounds.{Schedule, quantities}
use Rattle.market.specs.Rows.{Bounded}
use Rattle.market.specs.Refusals.{Finding, clear, holds}
use Rattle.market.specs.Outcome.{Valid, case_grounds}

module _ {A : Type 0} {Holds : A → Type 0} (unique : (a : A) → IsProp (Holds a)) where
  pub Each-prop : (es : List A) → IsProp (Each Holds es)
  Each-prop [] = Unit-prop
  Each-prop (e ∷ es) = ×_prop (unique e) (Each-prop es)

abbrev IsClear : Finding → Type 0
IsClear clear = Unit {0}
IsClear (holds why) = ⊥

IsClear-prop : (g : Finding) → IsProp (IsClear g)
IsClear-prop clear = Unit-prop
IsClear-prop (holds why) = ⊥_prop

abbrev path_of : (g : Finding) → IsClear g → g ≡ clear
path_of clear _ = refl
path_of (holds why) e = absurd e

abbrev at_clear : (g : Finding) → g ≡ clear → IsClear g
at_clear g p = subst⁻¹ IsClear p tt

path_of-at_clear : (g : Finding) (p : g ≡ clear) → path_of g (at_clear g p) ≡ p
path_of-at_clear g p = path_j' (λ g p. path_of g (at_clear g p) ≡ p) refl p

clear-prop : (g : Finding) → IsProp (g ≡ clear)
clear-prop g p q = sym (path_of-at_clear g p) ∙ ap (path_of g) (IsClear-prop g (at_clear g p) (at_clear g q)) ∙ path_of-at_clear g q

pub Valid-prop : (b : List ℕ) → IsProp (Valid b)
Valid-prop b = Each-prop clear-prop (case_grounds b)

pub Bounded-prop : (c : Case) (x : Schedule) → IsProp (Bounded c x)
Bounded-prop c x = Each-prop (λ a. le_prop) (quantities c)

-- the set for `by { Prim.hlevel unique }` after a ghost field
pub ruleset unique = (Valid-prop, Bounded-prop, logic.props)
