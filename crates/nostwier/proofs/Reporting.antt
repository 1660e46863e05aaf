-- From an answer's enum to what a C host receives.
use Rattle.std.specs.Prelude.{Result, Ok, Err}
use mathlib.Core.Path.{◌≡◌, refl, ap, ◌∙◌}
use mathlib.Core.List.{List}
use Prim.Native.Nat.{ℕ, ◌<◌}
use native.Mathlib.Omega.{arith}
use Rattle.market.specs.declared.Refusal.{Refusal}
use Rattle.market.specs.declared.Refusal.TheVariants as R
use Rattle.market.specs.declared.Valuation.{Valuation}
use Rattle.market.specs.declared.CheckResult.{CheckResult}
use Rattle.market.specs.Refusals.{number_of, result_of}
use Rattle.outcomes.specs.Checked.{Checked}
use Rattle.nostwier.specs.Reported.{Reported}

-- a refusal's number is never that of success
pub numbered : (w : Refusal) → 0 < number_of w
numbered R.CaseLength = omega arith
numbered R.CaseVersion = omega arith
numbered R.Counts = omega arith
numbered R.CaseSize = omega arith
numbered R.FieldRange = omega arith
numbered R.StepRule = omega arith
numbered R.LimitPair = omega arith
numbered R.CertificateLength = omega arith
numbered R.CertificateVersion = omega arith
numbered R.CountsDiffer = omega arith
numbered R.CertificateSize = omega arith
numbered R.PriceRange = omega arith
numbered (R.AboveBound p) = omega arith
numbered (R.RowBroken p) = omega arith
numbered R.BufferShort = omega arith
numbered R.NumberList = omega arith
numbered R.InputLength = omega arith

-- what a C host receives of a checked certificate
pub reported : (c q : List ℕ) (o : Result Valuation Refusal) (r : CheckResult) → Checked c q o → r ≡ result_of o → Reported c q r
reported c q (Ok v) r h e = rw e (record { answer = ap result_of h.answer; promise = λ z. h.promise v.cost.0 v.bound.0 v.gap.0 refl })
reported c q (Err w) r h e = rw e (record { answer = ap result_of h.answer; promise = λ z. absurd (omega (arith, numbered w)) })

-- a result that agrees with another in each field is what that one is
pub same_result : {r s t : CheckResult} → s ≡ t → r.refusal ≡ s.refusal → r.place ≡ s.place → r.cost ≡ s.cost → r.bound ≡ s.bound → r.gap ≡ s.gap → r ≡ t
same_result {r} {s} is refusal place cost bound gap = let same : r ≡ s = λ i. record { refusal = refusal i; place = place i; cost = cost i; bound = bound i; gap = gap i } in same ∙ is
