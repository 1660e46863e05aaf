-- A lent buffer: after the grounds gs of an operation comes 15, and the first that holds decides what is answered and whether
-- the buffer is written.
use mathlib.Core.Path.{◌≡◌, ◌∙◌, ap}
use mathlib.Core.Bool.{Bool}
use mathlib.Core.List.{List, [], ◌∷◌, ◌++◌}
use Prim.Native.Nat.{ℕ, ◌<◌, ◌≤◌}
use borrow.Author.Tests.{le-leb, lt-leb}
use Rattle.market.specs.declared.Refusal.{Refusal}
use Rattle.market.specs.declared.Refusal.TheVariants.{BufferShort}
use Rattle.market.specs.Refusals.{Finding, clear, holds, unless, first_of}
use Rattle.market.specs.Outcome.{room}
use Rattle.market.proofs.Grounds.{first_later, first_earlier, first_of_one}

-- ---- one ground more
pub first_then : (gs : List Finding) (g : Finding) → first_of gs ≡ clear → first_of (gs ++ (g ∷ [])) ≡ g
first_then gs g h = first_later gs (g ∷ []) h ∙ first_of_one g

pub first_stays : (gs : List Finding) (g : Finding) (r : Refusal) → first_of gs ≡ holds r → first_of (gs ++ (g ∷ [])) ≡ holds r
first_stays gs g r h = first_earlier gs (g ∷ []) r h

-- ---- 15, for a buffer of n elements of which `needed` are to be written
module _ (gs : List Finding) (needed n : ℕ) where
  pub refused_before : (w : Refusal) → first_of gs ≡ holds w → first_of (gs ++ (room needed n ∷ [])) ≡ holds w
  refused_before w h = first_stays gs (room needed n) w h

  pub too_short : first_of gs ≡ clear → n < needed → first_of (gs ++ (room needed n ∷ [])) ≡ holds BufferShort
  too_short h l = first_then gs (room needed n) h ∙ ap (λ (t : Bool). unless t BufferShort) (lt-leb needed n l)

  pub long_enough : first_of gs ≡ clear → needed ≤ n → first_of (gs ++ (room needed n ∷ [])) ≡ clear
  long_enough h l = first_then gs (room needed n) h ∙ ap (λ (t : Bool). unless t BufferShort) (le-leb needed n l)
