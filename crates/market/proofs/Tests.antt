-- A test and the statement that it decides, put together from smaller ones as the test is.
use mathlib.Core.Bool.{Bool, true, false, ◌&&◌, ◌||◌}
use mathlib.Core.List.{List}
use mathlib.Core.Logic.{◌↔◌, ◌⊎◌, inl, inr}
use mathlib.Core.Path.{◌≡◌, refl, subst, sym}
use Prim.Native.Nat.{ℕ, ◌≤◌, ◌<◌}
use native.Mathlib.Omega.{arith}
use lib.Dec.{T, leb, ltb, eqb, leb→le, le→leb, ltb→lt, lt→ltb, eqb→eq, eqb_refl}
use lib.IntN.{ℤ, pos, neg_ℤ}
use lib.Signed.{le_z, lt_z, ◌≤ℤ◌, ◌<ℤ◌, ≤ℤ_refl}
use Rattle.arith.specs.Sums.{Each, all, upto}
use Rattle.arith.proofs.Order.{≤ℤ-antisymm}
use Rattle.arith.proofs.Lists.{each_imp, each-upto, at_upto}
use Rattle.arith.proofs.AllTests.{and_split, and_join, all-each, each_all}
use Rattle.market.specs.Bytes.{within, within_ℤ, either_way}
use Rattle.market.specs.Version.{Version}
use Rattle.market.specs.Case.{Curve, zoned_curves, zoned, curves, has_curve, Reserve, reserves}
use Rattle.market.specs.CheckInWords.{Between, EitherWay}
use Rattle.market.proofs.Versions.{each_zoned, at_zoned, each_curve, at_curve}
use Rattle.market.proofs.Families.{at_reserve}

-- the test t passes exactly when S holds
pub record Decides (t : Bool) (S : Type 0) : Type 0 where
  pub told : T t → S
  pub passes : S → T t

pub exactly : {t : Bool} {S : Type 0} → Decides t S → T t ↔ S
exactly d = (d.told, d.passes)

is_true : (t : Bool) → T t → t ≡ true
is_true true h = refl
is_true false h = absurd h

pub true_exactly : {t : Bool} {S : Type 0} → Decides t S → (t ≡ true) ↔ S
true_exactly {t} d = ((λ e. d.told (subst T (sym e) tt)), (λ s. is_true t (d.passes s)))

-- the same statement in other words
pub reworded : {t : Bool} {S R : Type 0} → Decides t S → (S → R) → (R → S) → Decides t R
reworded d f g = record { told = λ h. f (d.told h); passes = λ r. d.passes (g r) }

pub both : {s t : Bool} {S R : Type 0} → Decides s S → Decides t R → Decides (s && t) (S × R)
both {s} {t} d e =
    record {
      told = λ h. let r = and_split s t h in (d.told r.0, e.told r.1);
      passes = λ r. and_join s t (d.passes r.0) (e.passes r.1);
    }

or_split : (s t : Bool) → T (s || t) → T s ⊎ T t
or_split true t h = inl tt
or_split false t h = inr h

or_join : (s t : Bool) → T s ⊎ T t → T (s || t)
or_join true t h = tt
or_join false t (inl h) = absurd h
or_join false t (inr h) = h

pub either : {s t : Bool} {S R : Type 0} → Decides s S → Decides t R → Decides (s || t) (S ⊎ R)
either {s} {t} {S} {R} d e = record { told = λ h. told_of (or_split s t h); passes = λ h. or_join s t (passing h) }
  where
    told_of : T s ⊎ T t → S ⊎ R
    told_of (inl h) = inl (d.told h)
    told_of (inr h) = inr (e.told h)

    passing : S ⊎ R → T s ⊎ T t
    passing (inl h) = inl (d.passes h)
    passing (inr h) = inr (e.passes h)

-- ---- numbers
pub le_test : (m n : ℕ) → Decides (leb m n) (m ≤ n)
le_test m n = record { told = leb→le m n; passes = le→leb m n }

pub lt_test : (m n : ℕ) → Decides (ltb m n) (m < n)
lt_test m n = record { told = ltb→lt m n; passes = lt→ltb m n }

pub eq_test : (m n : ℕ) → Decides (eqb m n) (m ≡ n)
eq_test m n = record { told = eqb→eq m n; passes = λ e. subst (λ (k : ℕ). T (eqb m k)) e (eqb_refl m) }

pub le_ℤ_test : (a b : ℤ) → Decides (le_z a b) (a ≤ℤ b)
le_ℤ_test a b = record { told = λ h. record { le = h }; passes = λ h. h.le }

pub lt_ℤ_test : (a b : ℤ) → Decides (lt_z a b) (a <ℤ b)
lt_ℤ_test a b = record { told = λ h. record { lt = h }; passes = λ h. h.lt }

pub between_test : (low high n : ℕ) → Decides (within low high n) (Between low high n)
between_test low high n = both (le_test low n) (le_test n high)

pub most_test : (high n : ℕ) → Decides (within 0 high n) (n ≤ high)
most_test high n = reworded (between_test 0 high n) (λ h. h.1) (λ h. (omega arith, h))

pub either_test : (n : ℕ) (v : ℤ) → Decides (either_way n v) (EitherWay n v)
either_test n v = both (le_ℤ_test (neg_ℤ (pos n)) v) (le_ℤ_test v (pos n))

pub zero_test : (v : ℤ) → Decides (within_ℤ (pos 0) (pos 0) v) (v ≡ pos 0)
zero_test v = reworded (both (le_ℤ_test (pos 0) v) (le_ℤ_test v (pos 0))) (λ h. ≤ℤ-antisymm h.1 h.0) (λ e. (rw e (≤ℤ_refl (pos 0)), rw e (≤ℤ_refl (pos 0))))

-- ---- every element
module _ {A : Type 0} {t : A → Bool} {S : A → Type 0} (d : (x : A) → Decides (t x) (S x)) where
  pub each_test : (xs : List A) → Decides (all t xs) (Each S xs)
  each_test xs =
      record {
        told = λ h. each_imp (λ x. (d x).told) xs (all-each t xs h);
        passes = λ h. each_all t xs (each_imp (λ x. (d x).passes) xs h);
      }

pub below_test : {t : ℕ → Bool} {S : ℕ → Type 0} → ((i : ℕ) → Decides (t i) (S i)) → (n : ℕ) → Decides (all t (upto n)) ((i : ℕ) → i < n → S i)
below_test {S = S} d n = reworded (each_test d (upto n)) (at_upto S n) (each-upto S n)

pub curves_test : (version : Version) {t : Curve → Bool} {S : Curve → Type 0} → ((k : Curve) → Decides (t k) (S k)) → Decides (all t (curves version)) ((k : Curve) → T (has_curve version k) → S k)
curves_test version {S = S} d = reworded (each_test d (curves version)) (at_curve version S) (each_curve version S)

pub zoned_test : {t : Curve → Bool} {S : Curve → Type 0} → ((k : Curve) → Decides (t k) (S k)) → Decides (all t zoned_curves) ((k : Curve) → T (zoned k) → S k)
zoned_test {S = S} d = reworded (each_test d zoned_curves) (at_zoned S) (each_zoned S)

pub reserves_test : {t : Reserve → Bool} {S : Reserve → Type 0} → ((p : Reserve) → Decides (t p) (S p)) → Decides (all t reserves) ((p : Reserve) → S p)
reserves_test {S = S} d = reworded (each_test d reserves) (at_reserve S) (λ h. (h _, (h _, (h _, tt))))
