-- What the records of a valid case are known to be, field by field, for arithmetic on them (01, 'The case file', ranges).
-- Power in kW, ramps in kW a minute, prices in cents. That they hold of a valid case is shown in proofs/Ranged.antt.
use Rattle.std.specs.Prelude.{◌≡◌, List, ℕ, ◌<◌, ◌≤◌, get_or, ℤ, pos, nat_abs}
use Rattle.market.specs.Case.{energy_steps, curve_steps}
use Rattle.market.specs.Records.{power, price}
use Rattle.market.specs.declared.Resource.{Resource}
use Rattle.market.specs.declared.OutputLimits.{OutputLimits}
use Rattle.market.specs.declared.Ramps.{Ramps}
use Rattle.market.specs.declared.OtherPowers.{OtherPowers}
use Rattle.market.specs.declared.ReserveOffers.{ReserveOffers}
use Rattle.market.specs.declared.ReserveTerms.{ReserveTerms}
use Rattle.market.specs.declared.PerCurve.{PerCurve}
use Rattle.market.specs.declared.Kw.{Kw}
use Rattle.market.specs.declared.Step.{Step}

-- Not negative, and at most so much. A clause and no type says it: the contracts that ask it have five different maxima, and a
-- figure would change its type from one to the next (`limits::ramped` takes up to 400,000 and gives up to 24,000,000).
pub record UpTo (v : ℤ) (most : ℕ) : Type 0 where
  pub natural : v ≡ pos (nat_abs v)
  pub at_most : nat_abs v ≤ most

-- what stands beyond the last step
abbrev pub no_step : Step
no_step = record { width = power 0; price = price 0 }

abbrev pub offer_step : List Step → ℕ → Step
offer_step offered j = get_or offered j no_step

abbrev pub curve_step : List Step → ℕ → Step
curve_step curve j = get_or curve j no_step

pub record RangedLimits (limits : OutputLimits) : Type 0 where
  pub economic_min : UpTo limits.economic_min.0 2000000
  pub economic_max : UpTo limits.economic_max.0 2000000
  pub regulating_min : UpTo limits.regulating_min.0 2000000
  pub regulating_max : UpTo limits.regulating_max.0 2000000
  pub emergency_min : UpTo limits.emergency_min.0 2000000
  pub emergency_max : UpTo limits.emergency_max.0 2000000

pub record RangedRamps (ramps : Ramps) : Type 0 where
  pub up : UpTo ramps.up.0 400000
  pub down : UpTo ramps.down.0 400000
  pub rate : UpTo ramps.rate.0 400000

pub record RangedOtherPowers (powers : OtherPowers) : Type 0 where
  pub initial : UpTo powers.initial.0 2000000
  pub off_line_response : UpTo powers.off_line_response.0 2000000
  pub off_line_short_term : UpTo powers.off_line_short_term.0 2000000
  pub self_schedule : UpTo powers.self_schedule.0 2000000

pub record RangedOffers (offers : ReserveOffers) : Type 0 where
  pub regulating : UpTo offers.regulating.0 400000
  pub contingency : UpTo offers.contingency.0 400000
  pub off_line_short_term : UpTo offers.off_line_short_term.0 400000

-- energy steps; their prices have a sign. `limits::OfferInRange` carries it
pub record RangedSteps (offered : List Step) : Type 0 where
  pub width : (j : ℕ) → j < energy_steps → UpTo (offer_step offered j).width.0 2000000
  pub price : (j : ℕ) → j < energy_steps → nat_abs (offer_step offered j).price.0 ≤ 400000

-- `limits::ResourceInRange` carries it
pub record Ranged (r : Resource) : Type 0 where
  pub output : nat_abs r.state.output.0 ≤ 2000000
  pub limits : RangedLimits r.limits
  pub ramps : RangedRamps r.ramps
  pub other_powers : RangedOtherPowers r.other_powers
  pub offers : RangedOffers r.offers

-- `limits::ReserveInRange` carries it
pub record RangedTerms (terms : ReserveTerms) : Type 0 where
  pub multiplier_from : 1 ≤ terms.multiplier.0
  pub multiplier_to : terms.multiplier.0 ≤ 5000
  pub minutes_from : 1 ≤ terms.minutes.0
  pub minutes_to : terms.minutes.0 ≤ 60
  pub share_to : terms.share.0 ≤ 1000
  pub requirement : UpTo terms.requirement.0 8000000

-- `limits::CurveInRange` carries it
pub record RangedCurve (curve : List Step) : Type 0 where
  pub width : (j : ℕ) → j < curve_steps → UpTo (curve_step curve j).width.0 8000000
  pub price : (j : ℕ) → j < curve_steps → UpTo (curve_step curve j).price.0 400000

pub record RangedZone (requirements : PerCurve Kw) : Type 0 where
  pub operating : UpTo requirements.operating.0 2000000
  pub regulating_plus_spinning : UpTo requirements.regulating_plus_spinning.0 2000000
  pub regulating : UpTo requirements.regulating.0 2000000
  pub short_term : UpTo requirements.short_term.0 2000000
