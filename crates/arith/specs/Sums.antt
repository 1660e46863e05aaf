-- Finite lists and sums over them, the smaller and the larger of two integers, and statements about each element of a list.
use Rattle.std.specs.Prelude.{Bool, true, false, cond, ◌&&◌, List, [], ◌∷◌, ◌++◌, ℕ, zero, suc, ◌+◌, ℤ, pos, nat_abs, ◌+ℤ◌}
use Rattle.std.specs.Int.Signed.{le_z}

unfoldable pub min_ℤ : ℤ → ℤ → ℤ
min_ℤ v v' = cond (le_z v v') v v'

unfoldable pub max_ℤ : ℤ → ℤ → ℤ
max_ℤ v v' = cond (le_z v v') v' v

-- the numbers below n, in order; built from the end, as a loop goes through them
unfoldable pub upto : ℕ → List ℕ
upto zero = []
upto (suc n) = upto n ++ (n ∷ [])

module _ {A : Type 0} where
  unfoldable pub sum_of : (A → ℤ) → List A → ℤ
  sum_of term [] = pos 0
  sum_of term (e ∷ es) = term e +ℤ sum_of term es

  -- the same for natural numbers
  unfoldable pub total_of : (A → ℕ) → List A → ℕ
  total_of term [] = 0
  total_of term (e ∷ es) = term e + total_of term es

  -- the sum of the terms' absolute values: no part of the sum is larger, in whatever order it is taken
  abbrev pub size_of : (A → ℤ) → List A → ℕ
  size_of term = total_of (λ e. nat_abs (term e))

  -- it holds of every element
  abbrev pub Each : (A → Type 0) → List A → Type 0
  Each Holds [] = Unit {0}
  Each Holds (e ∷ es) = Holds e × Each Holds es

  -- the list if the test passes, else nothing
  abbrev pub when : Bool → List A → List A
  when true es = es
  when false es = []

  -- the elements at which the test passes
  unfoldable pub kept : (A → Bool) → List A → List A
  kept test [] = []
  kept test (e ∷ es) = when (test e) (e ∷ []) ++ kept test es

  -- the test passes at every element
  unfoldable pub all : (A → Bool) → List A → Bool
  all test [] = true
  all test (e ∷ es) = test e && all test es

module _ {A B : Type 0} where
  -- the lists of the elements, end to end
  unfoldable pub across : (A → List B) → List A → List B
  across lists [] = []
  across lists (e ∷ es) = lists e ++ across lists es
