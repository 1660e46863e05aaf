use Rattle.std.specs.Prelude.{None}
use Rattle.std.proofs.Common.{◌≡◌, sym, ◌∙◌}
use Rattle.market.specs.declared.Refusal.TheVariants.{RowBroken}
use Rattle.case_records.proofs.Places.{zones_is}
use Rattle.rows.proofs.Known.{balance_broken, market_broken, zone_broken, rest_broken}
use Rattle.prices.specs.PricedCase.{the_case}
use Rattle.rows.proofs.first_broken.Goals as goal

pub returns-then-not-balanced : goal.returns-then-not-balanced
returns-then-not-balanced c = balance_broken _ RowBroken (the_case c.args.kept.now.bounded.priced) (sym c.balanced.ensures ∙ c.if-not-balanced.true)

pub returns-in-Some : goal.returns-in-Some
returns-in-Some c = market_broken _ RowBroken (the_case c.args.kept.now.bounded.priced) (sym c.balanced.ensures ∙ c.if-not-balanced.false) c.market_short.result (rw c.totals-have.ensures at c.market_short.ensures) c.in-Some.row cc

pub returns-in-Some-zones_short : goal.returns-in-Some-zones_short
returns-in-Some-zones_short c =
    let none : c.market_short.result ≡ None = cc in
    zone_broken _ RowBroken (the_case c.args.kept.now.bounded.priced) (sym c.balanced.ensures ∙ c.if-not-balanced.false) c.market_short.result (rw c.totals-have.ensures at c.market_short.ensures) none c.zones_short.result (rw c.totals-have.ensures at c.zones_short.ensures) c.in-Some-zones_short.row cc

pub returns : goal.returns
returns c =
    let none : c.market_short.result ≡ None = cc in
    let none_in_zones : c.zones_short.result ≡ None = cc in
    let rest = rw (zones_is c.args.kept.now.bounded.standing.prices.case_bytes) at c.network_broken.ensures in
    rest_broken _ RowBroken (the_case c.args.kept.now.bounded.priced) (sym c.balanced.ensures ∙ c.if-not-balanced.false) c.market_short.result (rw c.totals-have.ensures at c.market_short.ensures) none c.zones_short.result (rw c.totals-have.ensures at c.zones_short.ensures) c.network_broken.result none_in_zones rest
