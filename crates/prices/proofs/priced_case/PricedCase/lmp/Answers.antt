use mathlib.Core.Path.{◌∙◌}
use Rattle.prices.proofs.Known.{lmp_is, lmp_room}
use Rattle.prices.proofs.priced_case.PricedCase.lmp.Goals as goal

pub difference-requires : goal.difference-requires
difference-requires c = rw (c.balance_price-y.ensures, c.congestion-t.ensures) (lmp_room c.args.self.now.prices_stand c.args.i c.requires)

pub returns : goal.returns
returns c = c.difference.ensures ∙ rw (c.balance_price-y.ensures, c.congestion-t.ensures, lmp_is c.args.self.now.prices_stand c.args.i)
