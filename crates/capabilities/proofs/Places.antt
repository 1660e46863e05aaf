-- What is kept of each resource stands at its place.
use mathlib.Core.Path.{◌≡◌, ap, ◌∙◌}
use mathlib.Core.List.{List}
use Prim.Native.Nat.{ℕ, ◌+◌, ◌<◌}
use native.Mathlib.Decide.{dec_lt}
use native.Mathlib.Omega.{arith}
use lib.ListN.{length, get_or, set}
use Rattle.std.specs.Prelude.{Some}
use Rattle.std.proofs.lemmas.Option.{get_or_from_slice_get, slice_get-get_or}
use Rattle.std.proofs.lemmas.List.{length-set, get_or-set_same, get_or-set_other}
use Rattle.market.specs.Case.{Case}
use Rattle.capabilities.specs.declared.Capability.{Capability}
use Rattle.capabilities.specs.Kept.{capability_of, Kept}

module _ (c : Case) where
  -- read of a slice, whatever stands for an element that is not there
  pub kept_at : {r : ℕ} {kept : List Capability} → Kept c r kept → (i : ℕ) (d : Capability) → i < r → get_or kept i d ≡ capability_of c (c.resource i)
  kept_at {kept = kept} h i d l = get_or_from_slice_get kept i _ d (h.each i l)

  -- one more resource's is stored
  module _ (r : ℕ) (kept : List Capability) (h : Kept c r kept) (n : r < length kept) (k : Capability) (e : k ≡ capability_of c (c.resource r)) where
    at : (i : ℕ) → i < r + 1 → Dec (i < r) → get_or (set kept r k) i k ≡ capability_of c (c.resource i)
    at i l (yes below) = get_or-set_other kept r i k k (λ same. absurd (omega (arith, same))) ∙ kept_at h i k below
    at i l (no not_below) = let same : r ≡ i = omega arith in rw (← same) (get_or-set_same kept r k k n ∙ e)

    pub one_more_kept : Kept c (r + 1) (set kept r k)
    one_more_kept =
        record {
          room = omega (arith, length-set kept r k);
          each = λ i l. slice_get-get_or (set kept r k) i k (omega (arith, length-set kept r k)) ∙ ap Some (at i l (dec_lt i r));
        }
