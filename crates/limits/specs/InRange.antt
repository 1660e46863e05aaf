-- The terms of the three reserves that a value in range holds.
use Rattle.market.specs.declared.PerReserve.{PerReserve}
use Rattle.market.specs.declared.ReserveTerms.{ReserveTerms}
use Rattle.limits.specs.declared.reserve_in_range.ReserveInRange.{ReserveInRange}

abbrev pub terms_in : PerReserve ReserveInRange → PerReserve ReserveTerms
terms_in t = record { regulating = t.regulating.terms; contingency = t.contingency.terms; short_term = t.short_term.terms }
