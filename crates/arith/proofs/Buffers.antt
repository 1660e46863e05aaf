-- Laws of a buffer that is written from the front: stores one after the other, and parts that are lent on and come back.
-- In all of them the front p stands where the first n of the entries o stood.
use mathlib.Core.Path.{◌≡◌, ap, ◌∙◌}
use mathlib.Core.List.{List, [], ◌∷◌, ◌++◌, append-nil, append_assoc}
use Prim.Native.Nat.{ℕ, suc, ◌+◌, ◌-◌, ◌≤◌, ◌<◌}
use native.Mathlib.Nat.{zero-add}
use native.Mathlib.Numerals.{add-one}
use native.Mathlib.Omega.{arith}
use lib.ListN.{length, take, drop, set, length-append, length-drop}
use lib.Seq.{take_all, drop-length, drop-drop, drop-cons, take_at, drop_at, set_at, sets, sets-eq}
use borrow.Rule.Slice.PartMut.{put_mid, Post-is}

module _ {A : Type 0} where
  -- ---- stores
  -- several, from the first place on: on a list that is written out, `sets` computes to the stores themselves
  pub store_front : (vs xs : List A) → length vs ≤ length xs → sets xs 0 vs ≡ vs ++ drop (length vs) xs
  store_front vs xs h = sets-eq vs xs 0 (omega arith) ∙ rw (zero-add (length vs))

  -- one more, behind the front
  pub store_on : (p o out : List A) (v : A) (n : ℕ) → length p ≡ n → n < length o → out ≡ p ++ drop n o
      → set out n v ≡ (p ++ (v ∷ [])) ++ drop (n + 1) o
  store_on p o out v n lp fit eo =
      rw (eo, drop-cons o n v, add-one, append_assoc) (set_at p _ (drop (suc n) o) v n lp)

  -- ---- a part that is lent on
  -- `&mut xs[a..]` is the list from a on
  pub rest_is : (a : ℕ) (xs : List A) → take (length xs - a) (drop a xs) ≡ drop a xs
  rest_is a xs = take_all (length xs - a) (drop a xs) (omega (arith, length-drop a xs))

  pub rest_length : (a : ℕ) (xs : List A) → length (take (length xs - a) (drop a xs)) ≡ length xs - a
  rest_length a xs = rw (rest_is a xs) (length-drop a xs)

  -- and what it holds at the end stands there
  pub put_rest : (a : ℕ) (xs ys : List A) → a ≤ length xs → put_mid a (length xs - a) xs ys ≡ take a xs ++ ys
  put_rest a xs ys h = rw (Post-is a (length xs) xs h, drop-length, append-nil)

  -- m more, written at the front t of the part from `at` on
  pub write_on : (p t o out last : List A) (n m at : ℕ) → length p ≡ n → at ≡ n → n ≤ length o
      → out ≡ p ++ drop n o
      → last ≡ t ++ drop m (take (length out - at) (drop at out))
      → put_mid at (length out - at) out last ≡ (p ++ t) ++ drop (n + m) o
  write_on p t o out last n m at lp ea fit eo el =
      let room : at ≤ length out = omega (arith, ap length eo, length-append p (drop n o), length-drop n o) in
      put_rest at out last room
      ∙ rw (el, rest_is at out, ea, eo, take_at p (drop n o) n lp, drop_at p (drop n o) n lp, drop-drop m n o, append_assoc)
