-- The text of a refusal tells which one it is: its number and its place are read back from it.
use mathlib.Core.Path.{◌≡◌, refl, sym, ◌∙◌, ap, subst}
use mathlib.Core.Bool.{cond}
use mathlib.Core.List.{List, [], ◌∷◌, ◌++◌}
use mathlib.Core.Logic.{◌⊎◌, inl, inr}
use Prim.Native.Nat.{ℕ, zero, suc, ◌+◌, ◌*◌, ◌-◌, ◌^◌, ◌<◌}
use native.Mathlib.Omega.{arith}
use lib.Dec.{ltb}
use lib.ListN.{get_or, drop}
use Rattle.market.specs.declared.Refusal.{Refusal}
use Rattle.market.specs.declared.Refusal.TheVariants.{CaseLength, CaseVersion, Counts, CaseSize, FieldRange, StepRule, LimitPair, CertificateLength, CertificateVersion, CountsDiffer, CertificateSize, PriceRange, AboveBound, RowBroken, BufferShort, NumberList, InputLength}
use Rattle.market.specs.Refusals.{number_of, place_of}
use Rattle.market.specs.Program.{digits_on, decimal, spaced, place_figures, refusal_line}
use Rattle.market.proofs.Digits.{digits_append, digits_same}

-- ---- places
-- the least number of twenty digits
abbrev pub twenty_digits : ℕ
twenty_digits = 10 ^ 19

figures_same : (n m : ℕ) → m < twenty_digits → spaced (place_figures n) ≡ spaced (place_figures m) → n ≡ m
unfolding spaced decimal
figures_same zero zero l e = refl
figures_same zero (suc m) l e = absurd (let z : ◌≡◌ {A = ℕ} 10 32 = cc in omega arith)
figures_same (suc n) zero l e = absurd (let z : ◌≡◌ {A = ℕ} 32 10 = cc in omega arith)
figures_same (suc n) (suc m) l e =
    let k : digits_on 20 (suc n) [] ++ (10 ∷ []) ≡ digits_on 20 (suc m) [] ++ (10 ∷ []) = ap (λ (l : List ℕ). drop 1 l) e in
    (digits_same 18 (suc m) (suc n) (10 ∷ []) (10 ∷ []) l refl (sym (digits_append 20 (suc n) [] (10 ∷ [])) ∙ (k ∙ digits_append 20 (suc m) [] (10 ∷ [])))).0

-- ---- behind 'refused ' stands a number of one digit or two
unfoldable number_in : List ℕ → ℕ
number_in text = cond (ltb (get_or text 9 0) 48) (get_or text 8 0 - 48) ((get_or text 8 0 - 48) * 10 + (get_or text 9 0 - 48))

-- and behind that the place
unfoldable behind_number : ℕ → List ℕ → List ℕ
behind_number n text = drop (cond (ltb n 10) 9 10) text

-- a refusal by its number and its place
unfoldable refusal_from : ℕ → ℕ → Refusal
refusal_from n p =
    get_or (
    InputLength
    ∷ CaseLength ∷ CaseVersion ∷ Counts ∷ CaseSize ∷ FieldRange ∷ StepRule ∷ LimitPair
    ∷ CertificateLength ∷ CertificateVersion ∷ CountsDiffer ∷ CertificateSize ∷ PriceRange ∷ AboveBound p ∷ RowBroken p
    ∷ BufferShort ∷ NumberList ∷ []
    ) n InputLength

-- all of that of each refusal, and which ones have a place
abbrev ReadBack : Refusal → Type 0
ReadBack r =
    (number_in (refusal_line r) ≡ number_of r)
    × (behind_number (number_of r) (refusal_line r) ≡ spaced (place_figures (place_of r)))
    × (refusal_from (number_of r) (place_of r) ≡ r)
    × ((place_of r ≡ 0) ⊎ ((r ≡ AboveBound (place_of r)) ⊎ (r ≡ RowBroken (place_of r))))

read_back : (r : Refusal) → ReadBack r
unfolding number_in behind_number refusal_from refusal_line spaced decimal digits_on
read_back CaseLength = (refl, refl, refl, inl refl)
read_back CaseVersion = (refl, refl, refl, inl refl)
read_back Counts = (refl, refl, refl, inl refl)
read_back CaseSize = (refl, refl, refl, inl refl)
read_back FieldRange = (refl, refl, refl, inl refl)
read_back StepRule = (refl, refl, refl, inl refl)
read_back LimitPair = (refl, refl, refl, inl refl)
read_back CertificateLength = (refl, refl, refl, inl refl)
read_back CertificateVersion = (refl, refl, refl, inl refl)
read_back CountsDiffer = (refl, refl, refl, inl refl)
read_back CertificateSize = (refl, refl, refl, inl refl)
read_back PriceRange = (refl, refl, refl, inl refl)
read_back (AboveBound p) = (refl, refl, refl, inr (inl refl))
read_back (RowBroken p) = (refl, refl, refl, inr (inr refl))
read_back BufferShort = (refl, refl, refl, inl refl)
read_back NumberList = (refl, refl, refl, inl refl)
read_back InputLength = (refl, refl, refl, inl refl)

pub line_same : (r s : Refusal) → place_of s < twenty_digits → refusal_line r ≡ refusal_line s → r ≡ s
line_same r s l e =
    let of-r = read_back r in
    let of-s = read_back s in
    let n : number_of r ≡ number_of s = sym of-r.0 ∙ (ap number_in e ∙ of-s.0) in
    let t : behind_number (number_of s) (refusal_line r) ≡ spaced (place_figures (place_of r)) = rw n at of-r.1 in
    let p : place_of r ≡ place_of s = figures_same (place_of r) (place_of s) l (sym t ∙ (ap (behind_number (number_of s)) e ∙ of-s.1)) in
    sym of-r.2 ∙ (ap (λ (k : ℕ). refusal_from k (place_of r)) n ∙ (ap (refusal_from (number_of s)) p ∙ of-s.2))

-- ---- what holds of every refusal's place: 13 and 14 alone have one
pub of_place : (P : ℕ → Type 0) → P 0 → (r : Refusal) → ((p : ℕ) → r ≡ AboveBound p → P p) → ((p : ℕ) → r ≡ RowBroken p → P p) → P (place_of r)
of_place P none r above broken = go (read_back r).3
  where
    go : (place_of r ≡ 0) ⊎ ((r ≡ AboveBound (place_of r)) ⊎ (r ≡ RowBroken (place_of r))) → P (place_of r)
    go (inl e) = subst P (sym e) none
    go (inr (inl e)) = above (place_of r) e
    go (inr (inr e)) = broken (place_of r) e
