use Rattle.market.specs.Records.{amounts_of}
use Rattle.market.specs.UpperBounds.{upper_bound}
use Rattle.limits.specs.Together.{reserve_bounds_of}
use Rattle.quantities.proofs.service_bounds.Goals as goal

pub returns : goal.returns
unfolding amounts_of upper_bound reserve_bounds_of
returns c =
    λ k n on reserves d.
    λ i. record {
      energy = (c.energy_bound-energy.ensures k (k.resource n) on d) i;
      regulation = (reserves i).regulation;
      contingency = (reserves i).contingency;
      on_line_short_term = (reserves i).on_line_short_term;
      off_line_short_term = (reserves i).off_line_short_term;
    }
