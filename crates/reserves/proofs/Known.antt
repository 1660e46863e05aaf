-- What the resources of a standing certificate give to the reserve rows, and how large that is.
use mathlib.Core.Path.{◌≡◌, refl}
use mathlib.Core.Bool.{Bool, true, false, cond}
use mathlib.Core.List.{List}
use Prim.Native.Nat.{ℕ, suc, ◌<◌, ◌≤◌}
use native.Mathlib.Omega.{arith}
use lib.Dec.{eqb}
use lib.IntN.{ℤ, pos, nat_abs}
use borrow.Author.Tests.{eq-eqb, ne_eqb}
use Rattle.arith.proofs.Magnitudes.{abs-add}
use Rattle.market.specs.Case.{Case}
use Rattle.market.specs.declared.Curve.{Curve}
use Rattle.market.specs.declared.Curve.TheVariants.{Operating as operating, RegulatingPlusSpinning as regulating_plus_spinning, Regulating as regulating, ShortTerm as short_term}
use Rattle.market.specs.CaseFile.{case_of}
use Rattle.market.specs.UpperBounds.{regulation, contingency, on_line_short_term, off_line_short_term, Schedule}
use Rattle.market.specs.Certificate.{certificate_of}
use Rattle.market.specs.InWords.{kw_of, reserve_of, reserve_in_zone}
use Rattle.market.specs.Rows.{is_spinning}
use Rattle.market.specs.Records.{kw, amounts_of, curve_amounts_of}
use Rattle.prices.specs.Standing.{Standing}
use Rattle.prices.proofs.Known.{amount_small}
use Rattle.reserves.specs.Given.{given_by}

-- ---- by cases of a test
abs-if : (t : Bool) (v : ℤ) {m : ℕ} → nat_abs v ≤ m → nat_abs (cond t v (pos 0)) ≤ m
abs-if true v h = h
abs-if false v h = omega arith

module _ {b q : List ℕ} {r z f : ℕ} (s : Standing b q r z f) where
  pub spin_small : (i : ℕ) → i < r → nat_abs (cond (is_spinning ((case_of b).resource i)) (kw_of (certificate_of q).amount i contingency) (pos 0)) ≤ 2000000
  spin_small i h = abs-if (is_spinning ((case_of b).resource i)) (kw_of (certificate_of q).amount i contingency) (amount_small s i contingency tt h)

  -- what resource i gives to a row
  pub given_small : (k : Curve) (i : ℕ) → i < r → nat_abs (reserve_of (case_of b) (certificate_of q).amount k i) ≤ 4000000
  given_small operating i h = omega (arith, amount_small s i regulation tt h, amount_small s i contingency tt h)
  given_small regulating_plus_spinning i h =
      let x = (certificate_of q).amount in
      let spin = cond (is_spinning ((case_of b).resource i)) (kw_of x i contingency) (pos 0) in
      omega (arith, abs-add (kw_of x i regulation) spin, amount_small s i regulation tt h, spin_small i h)
  given_small regulating i h = omega (arith, amount_small s i regulation tt h)
  given_small short_term i h = omega (arith, amount_small s i on_line_short_term tt h, amount_small s i off_line_short_term tt h)

  pub given_in_zone_small : (y : ℕ) (k : Curve) (i : ℕ) → i < r → nat_abs (reserve_in_zone (case_of b) (certificate_of q).amount y k i) ≤ 4000000
  given_in_zone_small y k i h = abs-if (eqb ((case_of b).resource i).zone (suc y)) (reserve_of (case_of b) (certificate_of q).amount k i) (given_small k i h)

-- ---- by value
module _ (c : Case) (x : Schedule) (i : ℕ) where
  pub given_is : given_by (amounts_of x i) (kw (cond (is_spinning (c.resource i)) (kw_of x i contingency) (pos 0))) ≡ curve_amounts_of (λ k. reserve_of c x k i)
  unfolding given_by amounts_of
  given_is = refl

  -- nothing to the rows of a zone in which it does not stand, all that it gives to its own
  pub elsewhere : (y : ℕ) → ((c.resource i).zone ≡ suc y → ⊥) → (k : Curve) → reserve_in_zone c x y k i ≡ pos 0
  elsewhere y h k = rw (ne_eqb (c.resource i).zone (suc y) h)

  pub at_home : (y : ℕ) → (c.resource i).zone ≡ suc y → curve_amounts_of (λ k. reserve_of c x k i) ≡ curve_amounts_of (λ k. reserve_in_zone c x y k i)
  at_home y h = rw (eq-eqb (c.resource i).zone (suc y) h)
