use Rattle.std.proofs.Common.{◌≡◌, ◌∙◌, ap, sym, map}
use Rattle.market.specs.declared.Refusal.TheVariants.{AboveBound}
use Rattle.market.specs.UpperBounds.{provided_quantity}
use Rattle.market.specs.Records.{amounts_of}
use Rattle.market.specs.Refusals.{found_at, first_failing}
use Rattle.units.proofs.Search.{first_false_lem}
use Rattle.quantities.proofs.Above.{five, provides_five, meets}
use Rattle.quantities.proofs.provided_above.Goals as goal

pub returns : goal.returns
unfolding amounts_of
returns c = λ case x u i e k.
    let place = c.args.place in
    let tests : found_at AboveBound c.first_below.result ≡ first_failing (meets x u) AboveBound place (map (provided_quantity i) five) = rw (c.first_below.ensures, e, k) (first_false_lem (meets x u) AboveBound place (map (provided_quantity i) five)) in
    tests ∙ ap (first_failing (meets x u) AboveBound place) (sym (provides_five case.version i))
