-- Laws of sums of natural numbers, and the sizes of sums: the absolute values of the terms, added.
use mathlib.Core.Path.{◌≡◌, refl, sym, ap}
use mathlib.Core.List.{List, [], ◌∷◌, ◌++◌, map}
use Prim.Native.Nat.{ℕ, zero, suc, ◌+◌, ◌*◌, ◌<◌, ◌≤◌}
use native.Mathlib.Nat.{zero-add}
use native.Mathlib.Decide.{dec_le}
use native.Mathlib.Omega.{arith}
use lib.IntN.{ℤ, nat_abs}
use lib.ListN.{length, replicate}
use Rattle.arith.specs.Sums.{sum_of, total_of, size_of, Each, upto, across}
use Rattle.arith.proofs.Magnitudes.{abs-add, Size}

module _ {A : Type 0} where
  pub total-append : (f : A → ℕ) (xs ys : List A) → total_of f (xs ++ ys) ≡ total_of f xs + total_of f ys
  unfolding total_of
  total-append f [] ys = sym (zero-add (total_of f ys))
  total-append f (x ∷ xs) ys = omega (arith, total-append f xs ys)

  pub total_part : (f : A → ℕ) (xs ys : List A) → total_of f xs ≤ total_of f (xs ++ ys)
  total_part f xs ys = omega (arith, total-append f xs ys)

  pub total_mono : (f g : A → ℕ) (xs : List A) → Each (λ x. f x ≤ g x) xs → total_of f xs ≤ total_of g xs
  unfolding total_of
  total_mono f g [] h = omega arith
  total_mono f g (x ∷ xs) h = omega (arith, h.0, total_mono f g xs h.1)

  pub total_same : (m : ℕ) (xs : List A) → total_of (λ x. m) xs ≡ length xs * m
  unfolding total_of
  total_same m [] = omega arith
  total_same m (x ∷ xs) = omega (arith, total_same m xs)

  pub total-replicate : (f : A → ℕ) (n : ℕ) (x : A) → total_of f (replicate n x) ≡ n * f x
  unfolding total_of
  total-replicate f zero x = omega arith
  total-replicate f (suc n) x = omega (arith, total-replicate f n x)

  pub total-mono-all : (f g : A → ℕ) → ((x : A) → f x ≤ g x) → (xs : List A) → total_of f xs ≤ total_of g xs
  unfolding total_of
  total-mono-all f g h [] = omega arith
  total-mono-all f g h (x ∷ xs) = omega (arith, h x, total-mono-all f g h xs)

  pub total-scale : (k : ℕ) (f : A → ℕ) (xs : List A) → total_of (λ x. k * f x) xs ≡ k * total_of f xs
  unfolding total_of
  total-scale k f [] = omega arith
  total-scale k f (x ∷ xs) = omega (arith, total-scale k f xs)

  pub sum-size : (f : A → ℤ) (xs : List A) → nat_abs (sum_of f xs) ≤ size_of f xs
  unfolding sum_of total_of
  sum-size f [] = omega arith
  sum-size f (x ∷ xs) = omega (arith, abs-add (f x) (sum_of f xs), sum-size f xs)

  pub size-sum : (f : A → ℤ) (xs : List A) {m : ℕ} → size_of f xs ≤ m → Size (sum_of f xs) m
  size-sum f xs h = record { le = omega (arith, sum-size f xs) }

  -- every sum that a walk over the list forms on its way
  pub part_size : (f : A → ℤ) (xs ys : List A) → nat_abs (sum_of f xs) ≤ size_of f (xs ++ ys)
  part_size f xs ys = omega (arith, sum-size f xs, total_part (λ x. nat_abs (f x)) xs ys)

module _ {A B : Type 0} where
  pub total-map : (f : B → ℕ) (g : A → B) (xs : List A) → total_of f (map g xs) ≡ total_of (λ x. f (g x)) xs
  unfolding total_of
  total-map f g [] = refl
  total-map f g (x ∷ xs) = rw (total-map f g xs)

  pub total-across : (f : B → ℕ) (g : A → List B) (xs : List A) → total_of f (across g xs) ≡ total_of (λ x. total_of f (g x)) xs
  unfolding total_of across
  total-across f g [] = refl
  total-across f g (x ∷ xs) = rw (total-append f (g x) (across g xs), total-across f g xs)

-- ---- over the numbers below n
pub total-suc : (f : ℕ → ℕ) (n : ℕ) → total_of f (upto (suc n)) ≡ total_of f (upto n) + f n
unfolding upto total_of
total-suc f n = omega (arith, total-append f (upto n) (n ∷ []))

-- the same terms and more
pub total_longer : (f : ℕ → ℕ) {m : ℕ} (n : ℕ) → m ≤ n → total_of f (upto m) ≤ total_of f (upto n)
total_longer f {m} zero h = let e : m ≡ 0 = omega arith in rw e (omega arith)
total_longer f {m} (suc n) h = go (total_longer f {m = m} n) (dec_le m n)
  where
    go : (m ≤ n → total_of f (upto m) ≤ total_of f (upto n)) → Dec (m ≤ n) → total_of f (upto m) ≤ total_of f (upto (suc n))
    go shorter (yes k) = omega (arith, shorter k, total-suc f n)
    go shorter (no k) = let e : m ≡ suc n = omega arith in rw e (omega arith)

module _ {A : Type 0} (f : A → ℕ) where
  pub total_longer_map : (g : ℕ → A) {m : ℕ} (n : ℕ) → m ≤ n → total_of f (map g (upto m)) ≤ total_of f (map g (upto n))
  total_longer_map g {m} n h = rw (total-map f g (upto m), total-map f g (upto n)) (total_longer (λ i. f (g i)) n h)

  pub total_longer_across : (g : ℕ → List A) {m : ℕ} (n : ℕ) → m ≤ n → total_of f (across g (upto m)) ≤ total_of f (across g (upto n))
  total_longer_across g {m} n h = rw (total-across f g (upto m), total-across f g (upto n)) (total_longer (λ i. total_of f (g i)) n h)

-- n terms, each at most m
pub total_most : (f : ℕ → ℕ) (m n : ℕ) → ((j : ℕ) → j < n → f j ≤ m) → total_of f (upto n) ≤ n * m
unfolding upto total_of
total_most f m zero h = omega arith
total_most f m (suc n) h = omega (arith, total-suc f n, total_most f m n (λ j l. h j (omega arith)), h n (omega arith))

-- n terms, each at most m times its weight
pub total_weighted : (f w : ℕ → ℕ) (m n : ℕ) → ((j : ℕ) → j < n → f j ≤ m * w j) → total_of f (upto n) ≤ m * total_of w (upto n)
unfolding upto total_of
total_weighted f w m zero h = omega arith
total_weighted f w m (suc n) h =
    omega (arith, total-suc f n, total-suc w n, total_weighted f w m n (λ j l. h j (omega arith)), h n (omega arith), ap (λ (t : ℕ). m * t) (total-suc w n))

-- n terms, each at most m either way
pub upto-size : (f : ℕ → ℤ) (m n : ℕ) → ((j : ℕ) → j < n → nat_abs (f j) ≤ m) → nat_abs (sum_of f (upto n)) ≤ n * m
upto-size f m n h = omega (arith, sum-size f (upto n), total_most (λ j. nat_abs (f j)) m n h)
