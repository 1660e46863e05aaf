use Rattle.market.specs.Records.{cleared_of}
use Rattle.quantities.proofs.curve_bounds.Goals as goal

pub returns : goal.returns
unfolding cleared_of
returns c = λ i. record { operating = c.curve_bound_at.ensures i; regulating_plus_spinning = c.curve_bound_at-2.ensures i; regulating = c.curve_bound_at-3.ensures i; short_term = c.curve_bound_at-4.ensures i }
