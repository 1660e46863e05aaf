-- Which element stands at a place of lists that are repeated end to end.
use mathlib.Core.Path.{◌≡◌, refl, sym, ◌∙◌, ap}
use mathlib.Core.List.{List, [], ◌∷◌, ◌++◌}
use Prim.Native.Nat.{ℕ, zero, suc, ◌+◌, ◌*◌, ◌-◌, ◌%◌, ◌<◌, ◌≤◌}
use native.Mathlib.Nat.{not-suc-le-zero, le_of_suc-le-suc, mod-eq_of_lt, add-mod_left}
use native.Mathlib.Decide.{dec_lt}
use native.Mathlib.Omega.{arith}
use lib.ListN.{length, get_or}
use Rattle.std.proofs.lemmas.List.{get_or_append_left, get_or-append_right}
use Rattle.arith.specs.Sums.{Each, across}

module _ {A : Type 0} (d : A) where
  -- in a list before lists in which the remainder decides, too: by the remainder
  entry_again : (xs ys : List A) (k : ℕ) → (length xs ≤ k → get_or ys (k - length xs) d ≡ get_or xs ((k - length xs) % length xs) d) → Dec (k < length xs) → get_or (xs ++ ys) k d ≡ get_or xs (k % length xs) d
  entry_again xs ys k later (yes l) = get_or_append_left xs ys d k l ∙ ap (λ (j : ℕ). get_or xs j d) (sym (mod-eq_of_lt l))
  entry_again xs ys k later (no l) =
      let m = length xs in
      let place : k ≡ length xs + (k - length xs) = omega arith in
      let same : (k - length xs) % length xs ≡ k % length xs = sym (ap (λ (j : ℕ). j % m) place ∙ add-mod_left m (k - m)) in
      get_or-append_right xs ys m k d refl (omega arith) ∙ later (omega arith) ∙ ap (λ (j : ℕ). get_or xs j d) same

  -- in a list that is repeated once for each element of ns
  pub entry_repeated : (xs : List A) (ns : List ℕ) (k : ℕ) → k < length ns * length xs → get_or (across (λ i. xs) ns) k d ≡ get_or xs (k % length xs) d
  unfolding across
  entry_repeated xs [] k h = absurd (omega arith)
  entry_repeated xs (n ∷ ns) k h = entry_again xs (across (λ i. xs) ns) k (λ l. entry_repeated xs ns (k - length xs) (omega arith)) (dec_lt k (length xs))

  -- what holds of each element holds of the one at a place
  pub entry_each : (P : A → Type 0) (xs : List A) → Each P xs → (k : ℕ) → k < length xs → P (get_or xs k d)
  entry_each P [] e k h = absurd (not-suc-le-zero h)
  entry_each P (x ∷ xs) e zero h = e.0
  entry_each P (x ∷ xs) e (suc k) h = entry_each P xs e.1 k (le_of_suc-le-suc h)

  -- and of all others, where one stands between them
  pub entry_beside : (P : A → Type 0) (y : A) (xs ys : List A) → Each P xs → Each P ys → (k : ℕ) → k < length (xs ++ (y ∷ ys)) → (k ≡ length xs → ⊥) → P (get_or (xs ++ (y ∷ ys)) k d)
  entry_beside P y [] ys before behind zero h other = absurd (other refl)
  entry_beside P y [] ys before behind (suc k) h other = entry_each P ys behind k (le_of_suc-le-suc h)
  entry_beside P y (x ∷ xs) ys before behind zero h other = before.0
  entry_beside P y (x ∷ xs) ys before behind (suc k) h other = entry_beside P y xs ys before.1 behind k (le_of_suc-le-suc h) (λ e. other (ap suc e))
