use Rattle.market.specs.Records.{millicents}
use mathlib.Core.Path.{ap}
use Rattle.net_prices.specs.NetPrices.{nets_from}
use Rattle.net_prices.proofs.nets_of.Goals as goal

pub returns : goal.returns
unfolding nets_from
returns c =
    λ i. record {
      energy = c.energy_net.ensures i;
      regulation = (rw c.sized_sum-both.ensures.is at c.reserve_net.ensures) i;
      contingency = (rw c.contingency_price-counted.ensures at c.reserve_net-2.ensures) i;
      on_line_short_term = (ap millicents c.sized_difference.ensures.is) i;
      off_line_short_term = (ap millicents (rw c.asked-offered.ensures.is at c.sized_difference-2.ensures.is)) i;
    }
