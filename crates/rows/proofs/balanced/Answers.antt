use Rattle.std.proofs.Common.{◌≡◌, ap, arith}
use Rattle.arith.specs.Sums.{sum_of, upto}
use Rattle.market.specs.UpperBounds.{energy}
use Rattle.market.specs.InWords.{kw_of}
use Rattle.case_records.proofs.Places.{resources_is}
use Rattle.certificate_records.specs.Reader.{certificate_in}
use Rattle.prices.specs.PricedCase.{the_case, the_amounts}
use Rattle.prices.proofs.SameCounts.{same_resources}
use Rattle.flows.proofs.Parts.{energy_bounded}
use Rattle.rows.proofs.Tests.{balance_met}
use Rattle.rows.proofs.balanced.Goals as goal
use Rattle.rows.proofs.balanced.Goals.{After-energy_total-total}

pub energy_total-total-requires : goal.energy_total-total-requires
energy_total-total-requires c = rw (same_resources c.args.bounded.now.priced) (energy_bounded c.args.bounded.now.standing)

-- the energy of all resources of the case
total : (c : After-energy_total-total) → let p = c.args.bounded.now.priced in c.energy_total-total.result.0 ≡ sum_of (λ i. kw_of (the_amounts p) i energy) (upto p.case.resources)
total c = rw (c.energy_total-total.ensures, ap upto (same_resources c.args.bounded.now.priced))

pub returns : goal.returns
returns c = let p = c.args.bounded.now.priced in let t = total (goal.at.returns c).After-energy_total-total in grind (arith, t, balance_met (the_case p) (certificate_in p.certificate) p.case.resources (resources_is c.args.bounded.now.standing.prices.case_bytes))
