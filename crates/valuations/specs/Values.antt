-- What a pass over the resources makes: their worth at their prices, and what they add to the bound, with how large that can be.
use Rattle.market.specs.declared.Step.{Step}
use Rattle.std.specs.Prelude.{List}
use Rattle.std.specs.Prelude.{◌≡◌, Bool, ℕ, ℤ, nat_abs}
use Rattle.arith.specs.Sums.{sum_of, upto}
use Rattle.market.specs.UpperBounds.{energy}
use Rattle.market.specs.Sizes.{most_power}
use Rattle.market.specs.declared.Kw.{Kw}
use Rattle.case_records.specs.Ranged.{UpTo, offer_step}
use Rattle.market.specs.declared.PerService.{PerService}
use Rattle.market.specs.declared.Millicents.{Millicents}
use Rattle.costs.specs.Steps.{steps_worth}
use Rattle.costs.specs.Worth.{thousands}
use Rattle.units.specs.Sized.{Sized}
use Rattle.bounds.specs.Sizes.{SmallSteps, most_service_term}
use Rattle.bounds.specs.Terms.{step_least}
use Rattle.valuations.specs.declared.Value.{Value}

-- this worth, and so much for the bound
pub record Valued (value : Value) (worth least : ℤ) (most : ℕ) : Type 0 where
  pub worth_is : value.worth ≡ thousands worth
  pub least_is : Sized value.least.0 least most

-- ---- a resource's energy steps
pub record StepsRoom (steps : List Step) (amount : Kw) : Type 0 where
  pub small_steps : SmallSteps steps
  pub provided : UpTo amount.0 most_power

-- an amount filled into them in order, and the least that each adds, its upper bound being 0 if the resource is not on-line
abbrev pub StepsValued : Bool → (List Step) → (PerService Millicents) → Kw → Value → Type 0
StepsValued on steps nets amount value =
    Valued value (steps_worth (offer_step steps) (nat_abs amount.0) 10) (sum_of (λ j. step_least nets on (offer_step steps j)) (upto 10)) (most_service_term energy)
