-- On-line, off-line and tripped: which of the three two tests make, and which of the three are on-line.
use mathlib.Core.Bool.{Bool, true, false, cond, true≢false}
use mathlib.Core.Logic.{◌↔◌, ◌⊎◌, inl, inr}
use mathlib.Core.Path.{◌≡◌, refl, sym, ap}
use Prim.Native.Nat.{ℕ}
use native.Mathlib.Omega.{arith}
use lib.Dec.{T}
use Rattle.market.specs.Availability.{is_on_line}
use Rattle.market.specs.declared.Availability.{Availability}
use Rattle.market.specs.declared.Availability.TheVariants as A

-- by two tests: tripped; running
abbrev pub by_tests : Bool → Bool → Availability
by_tests t u = cond t A.Tripped (cond u A.OnLine A.OffLine)

abbrev order : Availability → ℕ
order A.OnLine = 1
order A.OffLine = 2
order A.Tripped = 3

pub is_tripped : (t u : Bool) → (by_tests t u ≡ A.Tripped) ↔ T t
is_tripped true u = (λ e. tt, λ h. refl)
is_tripped false true = (λ e. absurd (omega (arith, ap order e)), λ h. absurd h)
is_tripped false false = (λ e. absurd (omega (arith, ap order e)), λ h. absurd h)

pub is_on_line_lem : (t u : Bool) → (by_tests t u ≡ A.OnLine) ↔ (¬ (T t) × T u)
is_on_line_lem true u = (λ e. absurd (omega (arith, ap order e)), λ h. absurd (h.0 tt))
is_on_line_lem false true = (λ e. (λ x. x, tt), λ h. refl)
is_on_line_lem false false = (λ e. absurd (omega (arith, ap order e)), λ h. absurd h.1)

pub is_off_line : (t u : Bool) → (by_tests t u ≡ A.OffLine) ↔ (¬ (T t) × ¬ (T u))
is_off_line true u = (λ e. absurd (omega (arith, ap order e)), λ h. absurd (h.0 tt))
is_off_line false true = (λ e. absurd (omega (arith, ap order e)), λ h. absurd (h.1 tt))
is_off_line false false = (λ e. (λ x. x, λ x. x), λ h. refl)

pub on_line_true : (a : Availability) → (a ≡ A.OnLine) ↔ (is_on_line a ≡ true)
on_line_true A.OnLine = (λ e. refl, λ e. refl)
on_line_true A.OffLine = (λ e. ap is_on_line e, λ e. absurd (true≢false (sym e)))
on_line_true A.Tripped = (λ e. ap is_on_line e, λ e. absurd (true≢false (sym e)))

on_line_is_neither : (A.OnLine ≡ A.OffLine) ⊎ (A.OnLine ≡ A.Tripped) → true ≡ false
on_line_is_neither (inl e) = ap is_on_line e
on_line_is_neither (inr e) = ap is_on_line e

pub on_line_false : (a : Availability) → ((a ≡ A.OffLine) ⊎ (a ≡ A.Tripped)) ↔ (is_on_line a ≡ false)
on_line_false A.OnLine = (on_line_is_neither, λ e. absurd (true≢false e))
on_line_false A.OffLine = (λ e. refl, λ e. inl refl)
on_line_false A.Tripped = (λ e. refl, λ e. inr refl)
