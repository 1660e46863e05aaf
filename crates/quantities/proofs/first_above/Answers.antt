use Rattle.std.proofs.Common.{◌≡◌, ◌∙◌, ap, map}
use Rattle.std.specs.Prelude.{Some, None}
use Rattle.arith.specs.Sums.{upto}
use Rattle.market.specs.declared.Refusal.TheVariants.{AboveBound}
use Rattle.market.specs.Case.{curves}
use Rattle.market.specs.UpperBounds.{cleared_quantity, upper_bound}
use Rattle.certificate_records.specs.Reader.{certificate_in}
use Rattle.prices.specs.PricedCase.{the_case, the_amounts}
use Rattle.market.specs.Refusals.{first_failing, found_at}
use Rattle.market.specs.Outcome.{within_bound}
use Rattle.case_records.proofs.Places.{resources_is}
use Rattle.units.proofs.Search.{first_false_lem, first_here, first_next}
use Rattle.prices.proofs.Known.{no_cleared}
use Rattle.quantities.proofs.Above.{cleared_tests, in_turn}
use Rattle.quantities.proofs.first_above.Goals as goal
use Rattle.quantities.proofs.first_above.Goals.{After-first_short}

cleared : (c : After-first_short) → found_at AboveBound c.first_short.result ≡ first_failing (within_bound (the_case c.args.priced.now) (certificate_in c.args.priced.now.certificate)) AboveBound 1 (map cleared_quantity (curves (the_case c.args.priced.now).version))
cleared c =
    rw (c.first_short.ensures, c.cleared-given.ensures, c.curve_bounds-most.ensures, cleared_tests (the_amounts c.args.priced.now) (upper_bound (the_case c.args.priced.now)) (the_case c.args.priced.now).version (no_cleared c.args.priced.now.prices_stand) 1)
    (first_false_lem (within_bound (the_case c.args.priced.now) (certificate_in c.args.priced.now.certificate)) AboveBound 1 (map cleared_quantity (curves (the_case c.args.priced.now).version)))

pub returns-in-Some : goal.returns-in-Some
returns-in-Some c =
    let e : c.first_short.result ≡ Some c.in-Some.place = cc in
    first_here AboveBound _ c.first_short.result (cleared (goal.at.returns-in-Some c).After-first_short) c.in-Some.place e ∙ in_turn _ (the_case c.args.priced.now)

pub returns : goal.returns
returns c =
    let e : c.first_short.result ≡ None = cc in
    let rest = rw (ap upto (resources_is c.args.priced.now.case.whole)) at c.first_provided_above.ensures in
    first_next AboveBound _ c.first_short.result (cleared (goal.at.returns c).After-first_short) c.first_provided_above.result e rest ∙ in_turn _ (the_case c.args.priced.now)
