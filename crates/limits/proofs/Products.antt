-- The terms of the three reserves, which a valid case has in range.
use mathlib.Core.Path.{◌≡◌}
use mathlib.Core.List.{List}
use Prim.Native.Nat.{ℕ}
use Rattle.market.specs.declared.Reserve.TheVariants.{Regulating as regulating_reserve, Contingency as contingency_reserve, ShortTerm as short_term_reserve}
use Rattle.market.specs.CaseFile.{case_of}
use Rattle.market.specs.Outcome.{Valid}
use Rattle.market.specs.Records.{terms_of}
use Rattle.market.specs.declared.PerReserve.{PerReserve}
use Rattle.market.specs.declared.ReserveTerms.{ReserveTerms}
use Rattle.case_records.proofs.Ranged.{valid_terms}
use Rattle.limits.specs.Together.{TermsRanged}

terms_of_ranged : (b : List ℕ) → Valid b → TermsRanged (terms_of (case_of b))
unfolding terms_of
terms_of_ranged b v = record { regulating = valid_terms b v regulating_reserve; contingency = valid_terms b v contingency_reserve; short_term = valid_terms b v short_term_reserve }

pub terms_ranged : (b : List ℕ) {t : PerReserve ReserveTerms} → Valid b → t ≡ terms_of (case_of b) → TermsRanged t
terms_ranged b v e = rw e (terms_of_ranged b v)
