-- What is said of a reader's files is said of the lent bytes.
use mathlib.Core.Path.{◌≡◌, ap, ◌∙◌}
use mathlib.Core.List.{List}
use Prim.Native.Nat.{ℕ}

pub of_files : {A : Type 0} (f : List ℕ → List ℕ → A) {b q b' q' : List ℕ} → b ≡ b' → q ≡ q' → f b q ≡ f b' q'
of_files f {b} {q} {b'} {q'} eb eq = ap (λ (x : List ℕ). f x q) eb ∙ ap (f b') eq
