-- Prices and charges for a lent buffer: what is answered, and what the buffer holds, where a ground of 1 to 14 holds, where 15
-- does, and where none does.
use Rattle.std.specs.Prelude.{Result, Ok, Err}
use Rattle.std.proofs.Common.{◌≡◌, ◌∙◌, ℕ, ℤ, List, [], ◌∷◌, ◌++◌, length, drop}
use Rattle.market.specs.declared.Refusal.{Refusal}
use Rattle.market.specs.Refusals.{Finding, clear, holds, answered, first_of, buffer_after}
use Rattle.market.specs.Outcome.{room}
use Rattle.market.proofs.LentBuffer.{first_then, first_stays}
use Rattle.case_check.proofs.Passing.{passed_clear, refused_holds}

-- ---- the grounds gs, then 15 for a buffer that was `old`, of which `new` are to be written
module _ (gs : List Finding) (needed : ℕ) (new old : List ℤ) where
  abbrev all15 : Finding
  all15 = first_of (gs ++ (room needed (length old) ∷ []))

  abbrev pub Lends : Result (Unit {0}) Refusal → List ℤ → Type 0
  Lends r out = (r ≡ answered tt all15) × (out ≡ buffer_after all15 new old)

  unwritten : (w : Refusal) → all15 ≡ holds w → Lends (Err w) old
  unwritten w h = (rw h, rw h)

  pub lent_refused : {A : Type 0} (n : A) (w : Refusal) → answered n (first_of gs) ≡ Err w → Lends (Err w) old
  lent_refused n w h = unwritten w (first_stays gs _ w (refused_holds n w (first_of gs) h))

  module _ (passed : first_of gs ≡ clear) where
    pub lent_short : (w : Refusal) → answered {A = Unit {0}} tt (room needed (length old)) ≡ Err w → Lends (Err w) old
    lent_short w h = unwritten w (first_then gs _ passed ∙ refused_holds {A = Unit {0}} tt w (room needed (length old)) h)

    pub lent_written : (out : List ℤ) → answered {A = Unit {0}} tt (room needed (length old)) ≡ Ok tt → length new ≡ needed → out ≡ new ++ drop needed old → Lends (Ok tt) out
    lent_written out h k e = let c = first_then gs (room needed (length old)) passed ∙ (passed_clear {A = Unit {0}} tt tt (room needed (length old)) h).0 in (rw c, rw (c, k) e)
