-- A figure and how large it can be, so that sums of such figures fit.
use Rattle.std.specs.Prelude.{◌≡◌, ℕ, ◌≤◌, ℤ, nat_abs}

-- the figure is v, and no more than `most`
pub record Sized (figure v : ℤ) (most : ℕ) : Type 0 where
  pub is : figure ≡ v
  pub size : nat_abs figure ≤ most
