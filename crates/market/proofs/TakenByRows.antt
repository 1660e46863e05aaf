-- What the rows' prices take from a resource's service: a sum over all rows is one over those that can hold it.
use mathlib.Core.Path.{◌≡◌, refl, sym, ◌∙◌, ap, subst}
use mathlib.Core.Bool.{Bool, true, false}
use mathlib.Core.List.{◌++◌, map}
use Prim.Native.Nat.{ℕ, suc}
use native.Mathlib.Omega.{arith}
use lib.Dec.{T, eqb, eqb→eq, eqb_refl}
use lib.IntN.{ℤ, neg_ℤ, ◌+ℤ◌, ◌*ℤ◌}
use Rattle.arith.specs.Sums.{sum_of, upto}
use Rattle.arith.proofs.Sums.{sum-ext, sum-map, sum-across, append_sums, sum-cond}
use Rattle.arith.proofs.Picks.{sum_pick}
use Rattle.market.specs.Case.{Case, zoned_curves, curves}
use Rattle.market.specs.UpperBounds.{Service, provided_quantity}
use Rattle.market.specs.Rows.{Row, balance_row, market_row, zone_row, flowgate_row, limit_row, limits, market_rows, zone_rows, flowgate_rows, limit_rows, rows, none, one, entries, in_reserve, in_limit, coefficient}
use Rattle.market.specs.Certificate.{Prices}
use Rattle.market.specs.Bound.{row_value}
use Rattle.market.specs.InWords.{Placed}
use Rattle.market.proofs.Entries.{reserve_price, zone_price, market_price, limit_price, limit_price_lem}

-- a sum over the rows, by families
pub rows_sum : (c : Case) (g : Row → ℤ) → sum_of g (rows c)
    ≡ g balance_row +ℤ (sum_of (λ k. g (market_row k)) (curves c.version)
    +ℤ (sum_of (λ z. sum_of (λ k. g (zone_row z k)) zoned_curves) (upto c.zones)
    +ℤ (sum_of (λ f. g (flowgate_row f)) (upto c.flowgates)
    +ℤ sum_of (λ i. sum_of (λ l. g (limit_row i l)) (limits c.version)) (upto c.resources))))
unfolding rows sum_of
rows_sum c g =
    ap (λ (t : ℤ). g balance_row +ℤ t)
    (append_sums g (market_rows c) (zone_rows c ++ (flowgate_rows c ++ limit_rows c)) (sum-map g market_row (curves c.version))
    (append_sums g (zone_rows c) (flowgate_rows c ++ limit_rows c) (sum-across g (λ z. map (zone_row z) zoned_curves) (upto c.zones) ∙ sum-ext _ _ (λ z. sum-map g (zone_row z) zoned_curves) (upto c.zones))
    (append_sums g (flowgate_rows c) (limit_rows c) (sum-map g flowgate_row (upto c.flowgates))
    (sum-across g (λ i. map (limit_row i) (limits c.version)) (upto c.resources) ∙ sum-ext _ _ (λ i. sum-map g (limit_row i) (limits c.version)) (upto c.resources)))))

is_true : (b : Bool) → T b → b ≡ true
is_true true h = refl
is_true false h = absurd h

-- the test that names one number
pub same_number : (i : ℕ) → eqb i i ≡ true
same_number i = is_true (eqb i i) (eqb_refl i)

pub only_number : (i j : ℕ) → eqb i j ≡ true → i ≡ j
only_number i j e = eqb→eq i j (subst T (sym e) tt)

module _ (c : Case) (y : Prices) (i z : ℕ) (at : Placed c i z) where
  module _ (s : Service) where
    zone_sum : sum_of (λ z. sum_of (λ k. y (zone_row z k) *ℤ coefficient c (zone_row z k) (provided_quantity i s)) zoned_curves) (upto c.zones) ≡ sum_of (λ k. y (zone_row z k) *ℤ in_reserve (c.resource i) k s) zoned_curves
    unfolding coefficient none
    zone_sum =
        sum-ext _ _ (λ z. sum-cond (eqb (c.resource i).zone (suc z)) (λ k. y (zone_row z k)) (λ k. in_reserve (c.resource i) k s) zoned_curves) (upto c.zones)
        ∙ sum_pick (λ z. eqb (c.resource i).zone (suc z)) (λ z. sum_of (λ k. y (zone_row z k) *ℤ in_reserve (c.resource i) k s) zoned_curves) z
        (rw at.zoned (same_number (suc z))) (λ t e. omega (arith, only_number (c.resource i).zone (suc t) e, at.zoned)) c.zones at.zone_below

    limit_sum : sum_of (λ j. sum_of (λ l. y (limit_row j l) *ℤ coefficient c (limit_row j l) (provided_quantity i s)) (limits c.version)) (upto c.resources) ≡ sum_of (λ l. y (limit_row i l) *ℤ in_limit l s) (limits c.version)
    unfolding coefficient none
    limit_sum =
        sum-ext _ _ (λ j. sum-cond (eqb i j) (λ l. y (limit_row j l)) (λ l. in_limit l s) (limits c.version)) (upto c.resources)
        ∙ sum_pick (λ j. eqb i j) (λ j. sum_of (λ l. y (limit_row j l) *ℤ in_limit l s) (limits c.version)) i (same_number i) (λ j e. sym (only_number i j e)) c.resources at.below

    -- what the rows take from a resource's service: by the rows that can hold it
    pub taken : row_value c y (provided_quantity i s)
        ≡ y balance_row *ℤ entries one none none none none none none s
        +ℤ (reserve_price (c.resource i) (λ k. y (market_row k)) s
        +ℤ (reserve_price (c.resource i) (λ k. y (zone_row z k)) s
        +ℤ (sum_of (λ f. y (flowgate_row f) *ℤ neg_ℤ (entries (c.shift_factor f i) none none none none none none s)) (upto c.flowgates)
        +ℤ limit_price (λ l. y (limit_row i l)) s)))
    unfolding row_value coefficient
    taken =
        rows_sum c (λ r. y r *ℤ coefficient c r (provided_quantity i s))
        ∙ rw (zone_sum, limit_sum, market_price c.version (c.resource i) (λ k. y (market_row k)) s, zone_price (c.resource i) (λ k. y (zone_row z k)) s, limit_price_lem c.version (λ l. y (limit_row i l)) s)
