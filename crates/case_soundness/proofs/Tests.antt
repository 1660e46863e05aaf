-- Tests that have passed: joined by 'and', and of each number below n; and a function that answers false.
use Rattle.std.proofs.Common.{◌≡◌, Bool, true, false, ◌&&◌, T, sym, refl, subst}

-- a false answer says nothing
pub says_nothing : {A : Type 0} → false ≡ true → A
says_nothing e = absurd (subst T (sym e) tt)

pub both : (t u : Bool) → (t && u) ≡ true → (t ≡ true) × (u ≡ true)
both true u h = (refl, h)
both false u h = says_nothing h
