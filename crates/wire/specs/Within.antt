-- Places inside a slice, what is written at one, and numbers of a signed width.
use Rattle.std.specs.Prelude.{ℕ, ◌+◌, ◌≤◌, List, ◌++◌, length, take, drop, ℤ, pos, neg_ℤ, ◌≤ℤ◌, ◌<ℤ◌}

-- n elements stand at a place
module _ {A : Type 0} where
  abbrev pub Within : List A → ℕ → ℕ → Type 0
  Within es at n = at + n ≤ length es

  -- the list with these elements from a place on
  abbrev pub written : ℕ → List A → List A → List A
  written at new old = take at old ++ (new ++ drop (at + length new) old)

-- v fits a signed width whose half range is half
pub record Signed (half : ℕ) (v : ℤ) : Type 0 where
  pub low : neg_ℤ (pos half) ≤ℤ v
  pub high : v <ℤ pos half
