use Rattle.std.proofs.Common.{◌≡◌, ◌∙◌, ap, ℕ, ◌+◌, ◌*◌, arith}
use Rattle.std.specs.Prelude.{Some}
use Rattle.market.specs.declared.Refusal.TheVariants.{AboveBound}
use Rattle.market.specs.UpperBounds.{upper_bound}
use Rattle.certificate_records.specs.Reader.{certificate_in}
use Rattle.prices.specs.PricedCase.{the_case, the_amounts}
use Rattle.market.specs.Refusals.{first_failing, found_at}
use Rattle.market.specs.Outcome.{within_bound}
use Rattle.units.proofs.Search.{search_none, search_more, search_stop}
use Rattle.capabilities.proofs.Places.{kept_at}
use Rattle.capabilities.specs.Kept.{capability_of}
use Rattle.capabilities.specs.declared.Capability.{Capability}
use Rattle.quantities.specs.Places.{first_provided, places_each}
use Rattle.quantities.proofs.Above.{provided, as_many}
use Rattle.quantities.proofs.first_provided_above.Goals as goal
use Rattle.quantities.proofs.first_provided_above.Goals.{After-provided_above}

pub loop-i-init : goal.loop-i-init
loop-i-init c = search_none _ _ (provided (the_case c.args.priced.now).version) _ (as_many _) _

found : (c : After-provided_above) → found_at AboveBound c.provided_above.result ≡ first_failing (within_bound (the_case c.args.priced.now) (certificate_in c.args.priced.now.certificate)) AboveBound (first_provided (the_case c.args.priced.now).version + c.loop-i.i * places_each (the_case c.args.priced.now).version) (provided (the_case c.args.priced.now).version c.loop-i.i)
unfolding capability_of
found c =
    let i = c.loop-i.i in
    let p = c.args.priced.now in
    let case = the_case p in
    let own = kept_at case c.requires i _ (omega arith) in
    let most = c.service_bounds-most.ensures case i (ap (λ (k : Capability). k.on_line) own) (ap (λ (k : Capability). k.bounds) own) c.offer_steps.ensures in
    rw (c.curves-first_provided.ensures, c.services.ensures, c.version-version.ensures) at (c.provided_above.ensures case (the_amounts p) (upper_bound case) i c.amounts-given.ensures most)

pub returns-in-Some : goal.returns-in-Some
returns-in-Some c = ap (λ (p : ℕ). found_at AboveBound (Some p)) (omega arith) ∙ search_stop _ _ (provided (the_case c.args.priced.now).version) _ (as_many _) _ c.loop-i.i c.loop-i.invariant c.provided_above.result (found (goal.at.returns-in-Some c).After-provided_above) _ c.in-Some.place (omega arith) cc

pub loop-i-preserved : goal.loop-i-preserved
loop-i-preserved c = search_more _ _ (provided (the_case c.args.priced.now).version) _ (as_many _) _ c.loop-i.i c.loop-i.invariant c.provided_above.result (found (goal.at.loop-i-preserved c).After-provided_above) cc
