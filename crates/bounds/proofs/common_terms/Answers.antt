use mathlib.Core.Path.{◌≡◌, ◌∙◌}
use Prim.Native.Nat.{◌≤◌}
use native.Mathlib.Omega.{arith}
use lib.IntN.{nat_abs}
use Rattle.market.specs.Sizes.{most_demand}
use Rattle.market.specs.Rows.{balance_row, right_side}
use Rattle.bounds.specs.Terms.{row_term}
use Rattle.bounds.proofs.RowTerms.{balance_room}
use Rattle.bounds.proofs.common_terms.Goals as goal
use Rattle.bounds.proofs.common_terms.Goals.{After-demand-demand, After-worth-balance}
use Rattle.prices.specs.PricedCase.{case_bytes, certificate_bytes}

pub worth-balance-requires : goal.worth-balance-requires
worth-balance-requires c = rw (c.balance_price-price.ensures, c.demand-demand.ensures) (balance_room c.args.priced.now.prices_stand)

demand-most : (c : After-demand-demand) → nat_abs c.demand-demand.result.0 ≤ most_demand
demand-most c = rw c.demand-demand.ensures (balance_room c.args.priced.now.prices_stand).right_side

balance : (c : After-worth-balance) → c.worth-balance.result.0 ≡ row_term (case_bytes c.args.priced.now) (certificate_bytes c.args.priced.now) balance_row
unfolding right_side
balance c = c.worth-balance.ensures.is ∙ rw (c.balance_price-price.ensures, c.demand-demand.ensures)

pub sized_sum-requires : goal.sized_sum-requires
sized_sum-requires c = omega (arith, demand-most (goal.at.sized_sum-requires c).After-demand-demand)

pub returns : goal.returns
returns c = record { is = cc (balance (goal.at.returns c).After-worth-balance); size = omega (arith, demand-most (goal.at.returns c).After-demand-demand) }
