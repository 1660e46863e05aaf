-- A resource's kind and its breaker, by their bytes (01, 'The case file').
use Rattle.std.specs.Prelude.{Bool, true, false, cond, ℕ, eqb}
use Rattle.market.specs.declared.Kind.{Kind}
use Rattle.market.specs.declared.Kind.TheVariants.{Conventional, Intermittent, External, Unknown}
use Rattle.market.specs.declared.Breaker.{Breaker}
use Rattle.market.specs.declared.Breaker.TheVariants as B

-- 1 conventional, 2 intermittent, 3 external asynchronous
abbrev pub kind_of : ℕ → Kind
kind_of n = cond (eqb n 1) Conventional (cond (eqb n 2) Intermittent (cond (eqb n 3) External (Unknown n)))

abbrev pub is_conventional : Kind → Bool
is_conventional Conventional = true
is_conventional Intermittent = false
is_conventional External = false
is_conventional (Unknown n) = false

abbrev pub is_intermittent : Kind → Bool
is_intermittent Conventional = false
is_intermittent Intermittent = true
is_intermittent External = false
is_intermittent (Unknown n) = false

abbrev pub is_external : Kind → Bool
is_external Conventional = false
is_external Intermittent = false
is_external External = true
is_external (Unknown n) = false

-- 0 open, 1 closed
abbrev pub breaker_of : ℕ → Breaker
breaker_of n = cond (eqb n 0) B.Open (cond (eqb n 1) B.Closed (B.Unknown n))

abbrev pub is_closed : Breaker → Bool
is_closed B.Open = false
is_closed B.Closed = true
is_closed (B.Unknown n) = false
