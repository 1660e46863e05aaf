-- Steps that are filled in order, their charges written one after the other: before the first, and one more.
use mathlib.Core.Path.{◌≡◌, refl, ap, ◌∙◌}
use mathlib.Core.List.{List, map, ◌++◌}
use Prim.Native.Nat.{ℕ, ◌+◌, ◌-◌, ◌<◌}
use lib.IntN.{ℤ, nat_abs}
use lib.ListN.{length, drop, set}
use Rattle.arith.specs.Sums.{upto}
use Rattle.market.specs.declared.Kw.{Kw}
use Rattle.market.specs.declared.Step.{Step}
use Rattle.market.specs.Case.{width_of}
use Rattle.market.specs.Cost.{filled}
use Rattle.market.specs.Records.{power}
use Rattle.case_records.specs.Ranged.{UpTo}
use Rattle.costs.specs.declared.Filled.{Filled}
use Rattle.limits.specs.Widths.{widths_of}
use Rattle.costs.specs.Steps.{filling_of}
use Rattle.costs.proofs.Filling.{before_steps, next_step}
use Rattle.charges.proofs.Families.{write_next}

-- after j steps: what is left of x kW, and the charges so far in front of what stood in `first`
pub record Charged (steps : ℕ → Step) (charge : ℕ → ℤ) (x : ℕ) (first out : List ℤ) (left : Kw) (j : ℕ) : Type 0 where
  pub rest : left ≡ power (x - width_of (widths_of steps) j)
  pub written : out ≡ map charge (upto j) ++ drop j first

-- what fills step j, and what is left behind it
abbrev pub filled_at : (ℕ → Step) → ℕ → ℕ → Filled
filled_at steps x j = record { part = power (filled (widths_of steps) x j); left = power (x - width_of (widths_of steps) (j + 1)) }

module _ {steps : ℕ → Step} {charge : ℕ → ℤ} {first : List ℤ} where
  pub none_charged : {left : Kw} {most : ℕ} → UpTo left.0 most → Charged steps charge (nat_abs left.0) first first left 0
  unfolding upto
  none_charged h = record { rest = before_steps (widths_of steps) h; written = refl }

  module _ {x : ℕ} {out : List ℤ} {left : Kw} {j : ℕ} (h : Charged steps charge x first out left j) where
    pub filled_now : {v : Filled} → v ≡ filling_of (nat_abs left.0) (widths_of steps j) → v ≡ filled_at steps x j
    filled_now e = e ∙ rw h.rest (next_step (widths_of steps) x j)

    pub one_charged : {v : Filled} → j < length first → v ≡ filled_at steps x j → Charged steps charge x first (set out j (charge j)) v.left (j + 1)
    one_charged fit e = record { rest = ap (λ (a : Filled). a.left) e; written = write_next charge first out j fit h.written }
