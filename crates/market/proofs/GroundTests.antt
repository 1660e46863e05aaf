-- Grounds as tests in their order, each with the refusal where it fails.
use mathlib.Core.Bool.{Bool}
use mathlib.Core.List.{List, [], ◌∷◌}
use lib.Dec.{T}
use Rattle.arith.specs.Sums.{Each}
use Rattle.market.specs.declared.Refusal.{Refusal}
use Rattle.market.specs.Refusals.{Finding, unless, AllClear}
use Rattle.market.proofs.Grounds.{unless_clear, clear_unless}

pub record Test : Type 0 where
  pub passes : Bool
  pub refusal : Refusal

abbrev pub test : Bool → Refusal → Test
test t r = record { passes = t; refusal = r }

abbrev pub findings : List Test → List Finding
findings [] = []
findings (t ∷ ts) = unless t.passes t.refusal ∷ findings ts

abbrev pub AllPass : List Test → Type 0
AllPass ts = Each (λ t. T t.passes) ts

pub tests_pass : (ts : List Test) → AllClear (findings ts) → AllPass ts
tests_pass [] h = tt
tests_pass (t ∷ ts) h = (unless_clear t.passes t.refusal h.0, tests_pass ts h.1)

pub tests_clear : (ts : List Test) → AllPass ts → AllClear (findings ts)
tests_clear [] h = tt
tests_clear (t ∷ ts) h = (clear_unless t.passes t.refusal h.0, tests_clear ts h.1)
