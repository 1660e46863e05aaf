-- What grounds 5, 6 and 7 ask of a resource, together: in the words of `resource_in_range`, `energy_steps_right` and `pairs_ordered`
-- of market's CaseCheck, and of their parts.
use Rattle.std.specs.Prelude.{◌≡◌, ℕ, true, nat_le}
use Rattle.arith.specs.Sums.{upto, all}
use Rattle.market.specs.Bytes.{within}
use Rattle.market.specs.Case.{Resource, energy_steps}
use Rattle.market.specs.CaseCheck.{powers, resource_in_range, energy_steps_right, pairs_ordered}
use Rattle.case_ranges.specs.Pieces.{offer_step_in_range}

-- a minimum and its maximum
pub record SoundPair (low high : ℕ) : Type 0 where
  pub low_in_range : within 0 2000000 low ≡ true
  pub high_in_range : within 0 2000000 high ≡ true
  pub ordered : nat_le low high ≡ true

pub record SoundPowers (r : Resource) : Type 0 where
  pub in_range : all (within 0 2000000) (powers r) ≡ true
  pub ordered : pairs_ordered r ≡ true

-- energy steps
pub record SoundOffer (r : Resource) : Type 0 where
  pub in_range : all (offer_step_in_range r) (upto energy_steps) ≡ true
  pub steps_right : energy_steps_right r ≡ true

-- a resource of a case that has so many zones
pub record SoundResource (zones : ℕ) (r : Resource) : Type 0 where
  pub in_range : resource_in_range zones r ≡ true
  pub steps_right : energy_steps_right r ≡ true
  pub ordered : pairs_ordered r ≡ true
