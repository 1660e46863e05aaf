-- A list that holds an entry for each number below n, also as the front of a buffer: what is read of it, and what one store makes of it.
use mathlib.Core.Path.{◌≡◌, refl, sym, ap, ◌∙◌}
use mathlib.Core.List.{List, [], ◌∷◌, ◌++◌, map, map-append}
use Prim.Native.Nat.{ℕ, zero, suc, ◌+◌, ◌<◌}
use native.Mathlib.Nat.{add-zero}
use native.Mathlib.Decide.{dec_lt, ℕ_discrete}
use native.Mathlib.Numerals.{add-one}
use native.Mathlib.Omega.{arith}
use lib.ListN.{length, get_or, drop, set, length-map, length-set, get_or-append}
use lib.Seq.{drop_at, get_or_at, get_or-drop, get_or-append-add, get_or-set_same, get_or-set_other, ext_get_or}
use Rattle.arith.specs.Sums.{upto}
use Rattle.arith.proofs.Buffers.{store_on}
use Rattle.arith.proofs.Lists.{length-upto, map-upto}

module _ {A : Type 0} where
  pub table_length : (g : ℕ → A) (n : ℕ) → length (map g (upto n)) ≡ n
  table_length g n = length-map (upto n) g ∙ length-upto n

  pub table_ext : (g h : ℕ → A) (n : ℕ) → ((i : ℕ) → i < n → g i ≡ h i) → map g (upto n) ≡ map h (upto n)
  unfolding upto
  table_ext g h zero e = refl
  table_ext g h (suc n) e = rw (map-append g (upto n) (n ∷ []), map-append h (upto n) (n ∷ []), table_ext g h n (λ i l. e i (omega arith)), e n (omega arith))

  -- ---- in front of a buffer
  -- one more entry is stored
  pub front_store : (g : ℕ → A) (n : ℕ) (o out : List A) → n < length o → out ≡ map g (upto n) ++ drop n o
      → set out n (g n) ≡ map g (upto (n + 1)) ++ drop (n + 1) o
  front_store g n o out fit e = rw (map-upto g n) (store_on (map g (upto n)) o out (g n) n (table_length g n) fit e)

  pub front_rest : (g : ℕ → A) (n : ℕ) (out rest : List A) → out ≡ map g (upto n) ++ rest → drop n out ≡ rest
  front_rest g n out rest e = ap (drop n) e ∙ drop_at (map g (upto n)) rest n (table_length g n)

module _ {A : Type 0} (d : A) where
  pub table_entry : (g : ℕ → A) (n k : ℕ) → k < n → get_or (map g (upto n)) k d ≡ g k
  table_entry g zero k h = absurd (omega arith)
  table_entry g (suc n) k h = go (table_entry g n k) (dec_lt k n)
    where
      go : (k < n → get_or (map g (upto n)) k d ≡ g k) → Dec (k < n) → get_or (map g (upto (suc n))) k d ≡ g k
      go below (yes l) = rw (← (add-one n), map-upto g n) (get_or-append (map g (upto n)) (g n ∷ []) d k (omega (arith, table_length g n)) ∙ below l)
      go below (no l) =
          let e : k ≡ n = omega arith in
          rw (← (add-one n), map-upto g n, e) (get_or_at (map g (upto n)) (g n) [] d n (table_length g n))

  -- in front of a buffer: an entry, and what stands behind the last
  pub front_entry : (g : ℕ → A) (n : ℕ) (rest : List A) (k : ℕ) → k < n → get_or (map g (upto n) ++ rest) k d ≡ g k
  front_entry g n rest k h = get_or-append (map g (upto n)) rest d k (omega (arith, table_length g n)) ∙ table_entry g n k h

  pub front_next : (g : ℕ → A) (n : ℕ) (o : List A) → get_or (map g (upto n) ++ drop n o) n d ≡ get_or o n d
  front_next g n o =
      let e : n ≡ length (map g (upto n)) + 0 = omega (arith, table_length g n) in
      ap (λ (k : ℕ). get_or (map g (upto n) ++ drop n o) k d) e ∙ get_or-append-add (map g (upto n)) (drop n o) 0 d ∙ get_or-drop n o 0 d ∙ rw (add-zero n)

  -- the entry k changes, the others stay
  module _ (g h : ℕ → A) (n k : ℕ) (v : A) (own : v ≡ h k) (others : (j : ℕ) → (j ≡ k → ⊥) → g j ≡ h j) where
    stored_entry : (j : ℕ) → j < n → Dec (j ≡ k) → get_or (set (map g (upto n)) k v) j d ≡ get_or (map h (upto n)) j d
    stored_entry j l (yes e) = rw (e, table_entry h n k (omega arith)) (get_or-set_same (map g (upto n)) k v d (omega (arith, table_length g n)) ∙ own)
    stored_entry j l (no e) = rw (table_entry h n j l) (get_or-set_other (map g (upto n)) k j v d e ∙ table_entry g n j l ∙ others j e)

    pub table_store : set (map g (upto n)) k v ≡ map h (upto n)
    table_store =
        let long : length (set (map g (upto n)) k v) ≡ n = length-set (map g (upto n)) k v ∙ table_length g n in
        ext_get_or d (set (map g (upto n)) k v) (map h (upto n)) (long ∙ sym (table_length h n)) (λ j l. stored_entry j (omega (arith, long)) (ℕ_discrete j k))
