-- A search among pairs, from the k-th on; and what a search for the first that fails a test finds.
use Rattle.std.proofs.Common.{◌≡◌, refl, ap, sym, ◌∙◌, ℕ, suc, ◌+◌, ◌*◌, ◌<◌, ◌≤◌, Bool, true, false, List, [], ◌∷◌, T, map, drop, get_or, length, arith}
use native.Mathlib.Numerals.{add-one}
use Rattle.std.specs.Prelude.{Option, Some, None}
use Rattle.std.proofs.lemmas.List.{drop_more, drop_all}
use Rattle.market.specs.declared.Kw.{Kw}
use Rattle.market.specs.declared.version.Version.{Version}
use Rattle.market.specs.declared.version.Version.TheVariants.{First}
use Rattle.market.specs.declared.Curve.{Curve}
use Rattle.market.specs.declared.Curve.TheVariants.{Operating as operating, RegulatingPlusSpinning as regulating_plus_spinning, Regulating as regulating, ShortTerm as short_term}
use Rattle.market.specs.Case.{all_curves, has_curve, curves}
use Rattle.market.specs.declared.Refusal.{Refusal}
use Rattle.market.specs.Refusals.{Finding, clear, holds, found_at, first_failing}
use Rattle.market.proofs.FirstFailing.{or_else, first_none, first_blocks, first_kept}
use Rattle.arith.specs.Sums.{upto, across}
use Rattle.units.specs.Search.{first_false, reaches}

-- ---- the pairs from the k-th on, numbered from n + k
module _ (n : ℕ) (pairs : List (Kw × Kw)) where
  abbrev pub short_from : ℕ → Option ℕ
  short_from k = first_false (n + k) (map reaches (drop k pairs))

  module _ (k : ℕ) (d : Kw × Kw) (l : k < length pairs) where
    pub short_here : reaches (get_or pairs k d) ≡ false → short_from k ≡ Some (n + k)
    unfolding first_false
    short_here h = rw (drop_more pairs k d l, h)

    pub short_later : reaches (get_or pairs k d) ≡ true → short_from k ≡ short_from (k + 1)
    unfolding first_false
    short_later h = let e : suc (n + k) ≡ n + (k + 1) = omega arith in rw (drop_more pairs k d l, h) (ap (λ m. first_false m (map reaches (drop (k + 1) pairs))) e)

  pub short_nowhere : (k : ℕ) → length pairs ≤ k → short_from k ≡ None
  unfolding first_false
  short_nowhere k l = rw (drop_all k pairs l)

-- ---- what is found first of two families
module _ (r : ℕ → Refusal) {F : Finding} (G : Finding) (n : Option ℕ) (h : found_at r n ≡ F) where
  pub first_here : (p : ℕ) → n ≡ Some p → found_at r (Some p) ≡ or_else F G
  first_here p e = rw (← h, e)

  pub first_next : (m : Option ℕ) → n ≡ None → found_at r m ≡ G → found_at r m ≡ or_else F G
  first_next m e k = rw (← h, e) k

-- ---- by the results of the tests
module _ {A : Type 0} (f : A → Bool) (r : ℕ → Refusal) where
  pub first_false_lem : (n : ℕ) (xs : List A) → found_at r (first_false n (map f xs)) ≡ first_failing f r n xs
  unfolding first_false first_failing
  first_false_lem n [] = refl
  first_false_lem n (x ∷ xs) = go (f x) (first_false_lem (suc n) xs)
    where
      go : (t : Bool) → found_at r (first_false (suc n) (map f xs)) ≡ first_failing f r (suc n) xs →
          found_at r (first_false n (t ∷ map f xs)) ≡ elim t [ true ↦ first_failing f r (suc n) xs | false ↦ holds (r n) ]
      go true e = e
      go false e = refl

  -- ---- block by block, each of m elements: none found in the first i
  module _ (g : ℕ → List A) (m : ℕ) (long : (i : ℕ) → length (g i) ≡ m) (s : ℕ) where
    abbrev pub none_in : ℕ → Type 0
    none_in i = first_failing f r s (across g (upto i)) ≡ clear

    pub search_none : none_in 0
    unfolding across upto
    search_none = first_none f r s

    module _ (i : ℕ) (none : none_in i) (n : Option ℕ) (h : found_at r n ≡ first_failing f r (s + i * m) (g i)) where
      block : first_failing f r s (across g (upto (suc i))) ≡ found_at r n
      block = first_blocks f r g m long s i ∙ rw (none, h)

      pub search_more : n ≡ None → none_in (i + 1)
      search_more e = rw add-one (block ∙ ap (found_at r) e)

      pub search_stop : (k p : ℕ) → i < k → n ≡ Some p → found_at r (Some p) ≡ first_failing f r s (across g (upto k))
      search_stop k p l e = sym (first_kept f r g m long s (suc i) k (r p) l (block ∙ ap (found_at r) e))

-- ---- over the curves: what passes where the version has no such curve may be tested too
module _ {A : Type 0} (make : Curve → A) (passes : A → Bool) (test : Curve → Bool) where
  pub searched_over_all : (version : Version) → ((k : Curve) → T (has_curve version k) → test k ≡ passes (make k)) → ((k : Curve) → has_curve version k ≡ false → test k ≡ true) → (n : ℕ) → first_false n (map test all_curves) ≡ first_false n (map passes (map make (curves version)))
  searched_over_all First same absent n = ap (first_false n) (λ j. same operating tt j ∷ same regulating_plus_spinning tt j ∷ same regulating tt j ∷ same short_term tt j ∷ [])
