-- Sums over the resources for the four reserve rows at once: one term more, which may be 0, and that the sums fit.
use mathlib.Core.Path.{◌≡◌, sym, ◌∙◌}
use Prim.Native.Nat.{ℕ, ◌+◌, ◌<◌, ◌≤◌}
use native.Mathlib.Omega.{arith}
use lib.IntN.{ℤ, pos, nat_abs, +ℤ_idr}
use Rattle.arith.specs.Sums.{sum_of, upto}
use Rattle.arith.proofs.Sums.{sum-upto}
use Rattle.arith.proofs.NaturalSums.{upto-size}
use Rattle.market.specs.declared.Curve.{Curve}
use Rattle.market.specs.declared.Curve.TheVariants.{Operating as operating, RegulatingPlusSpinning as regulating_plus_spinning, Regulating as regulating, ShortTerm as short_term}
use Rattle.market.specs.CaseCheck.{most_resources}
use Rattle.market.specs.Records.{kw, curve_amounts_of}
use Rattle.units.specs.Room.{SumRoom}
use Rattle.reserves.specs.Given.{SumsRoom, added_amounts}

-- f gives each row a term for each resource
module _ (f : Curve → ℕ → ℤ) where
  pub sums_more : (i : ℕ) → added_amounts (curve_amounts_of (λ k. sum_of (f k) (upto i))) (curve_amounts_of (λ k. f k i)) ≡ curve_amounts_of (λ k. sum_of (f k) (upto (i + 1)))
  unfolding added_amounts
  sums_more i =
      λ j. record {
        operating = kw (sym (sum-upto (f operating) i) j);
        regulating_plus_spinning = kw (sym (sum-upto (f regulating_plus_spinning) i) j);
        regulating = kw (sym (sum-upto (f regulating) i) j);
        short_term = kw (sym (sum-upto (f short_term) i) j);
      }

  -- a resource that gives nothing
  sum_same : (k : Curve) (i : ℕ) → f k i ≡ pos 0 → sum_of (f k) (upto i) ≡ sum_of (f k) (upto (i + 1))
  sum_same k i e = sym (sum-upto (f k) i ∙ rw e (+ℤ_idr (sum_of (f k) (upto i))))

  pub sums_same : (i : ℕ) → ((k : Curve) → f k i ≡ pos 0) → curve_amounts_of (λ k. sum_of (f k) (upto i)) ≡ curve_amounts_of (λ k. sum_of (f k) (upto (i + 1)))
  sums_same i e =
      λ j. record {
        operating = kw (sum_same operating i (e operating) j);
        regulating_plus_spinning = kw (sum_same regulating_plus_spinning i (e regulating_plus_spinning) j);
        regulating = kw (sum_same regulating i (e regulating) j);
        short_term = kw (sum_same short_term i (e short_term) j);
      }

  module _ (r : ℕ) (few : r ≤ most_resources) (small : (k : Curve) (i : ℕ) → i < r → nat_abs (f k i) ≤ 4000000) where
    sum_room : (k : Curve) (i : ℕ) → i < r → SumRoom (sum_of (f k) (upto i)) (f k i)
    sum_room k i h = omega (arith, small k i h, upto-size (f k) 4000000 i (λ j l. small k j (omega arith)))

    pub sums_room : (i : ℕ) → i < r → SumsRoom (curve_amounts_of (λ k. sum_of (f k) (upto i))) (curve_amounts_of (λ k. f k i))
    sums_room i h =
        record {
          operating = sum_room operating i h;
          regulating_plus_spinning = sum_room regulating_plus_spinning i h;
          regulating = sum_room regulating i h;
          short_term = sum_room short_term i h;
        }
