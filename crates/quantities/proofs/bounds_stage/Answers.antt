use Rattle.std.specs.Prelude.{Ok, Err}
use mathlib.Core.Path.{◌≡◌, sym, ◌∙◌}
use mathlib.Core.List.{[], ◌∷◌}
use Rattle.market.specs.CaseFile.{case_of}
use Rattle.market.specs.Certificate.{certificate_of}
use Rattle.market.specs.Records.{counts_in}
use Rattle.market.specs.Refusals.{answered, first_of}
use Rattle.market.specs.Outcome.{price_ground, bound_ground, grounds_to11, grounds_to12, grounds_to13}
use Rattle.case_check.proofs.Passing.{passed_clear}
use Rattle.quantities.specs.Filing.{FiledWith}
use Rattle.quantities.proofs.Passing.{stays, one_more, priced, decided, undecided}
use Rattle.quantities.proofs.bounds_stage.Goals as goal
use Rattle.quantities.proofs.bounds_stage.Goals.{In-Ok, After-prices_stage-prices}

filed : (c : In-Ok) → FiledWith c.args.b.now c.args.q.now c.in-Ok.n
filed c = let e : c.form_stage-form.result ≡ Ok c.in-Ok.n = cc in rw e at c.form_stage-form.ensures.filed

to12 : (c : After-prices_stage-prices) → answered (counts_in (case_of c.args.b.now)) (first_of (grounds_to12 c.args.b.now c.args.q.now)) ≡ c.prices_stage-prices.result
unfolding grounds_to12
to12 c =
    let b = c.args.b.now in
    let q = c.args.q.now in
    let e : c.form_stage-form.result ≡ Ok c.in-Ok.n = cc in
    one_more (counts_in (case_of b)) (grounds_to11 b q) (price_ground (case_of b) (certificate_of q)) _ (sym c.form_stage-form.ensures.answer ∙ e) ∙ sym c.prices_stage-prices.ensures

pub returns-in_default : goal.returns-in_default
unfolding grounds_to12 grounds_to13
returns-in_default c =
    let b = c.args.b.now in
    let q = c.args.q.now in
    let n = counts_in (case_of b) in
    let e : c.form_stage-form.result ≡ Err c.in_default.field-0 = cc in
    (e ∙ sym (stays n (grounds_to12 b q) (bound_ground (case_of b) (certificate_of q) ∷ []) _ (stays n (grounds_to11 b q) (price_ground (case_of b) (certificate_of q) ∷ []) _ (sym c.form_stage-form.ensures.answer ∙ e))), undecided e)

pub returns-in_default-prices : goal.returns-in_default-prices
unfolding grounds_to13
returns-in_default-prices c =
    let b = c.args.b.now in
    let q = c.args.q.now in
    let e : c.prices_stage-prices.result ≡ Err c.in_default-prices.field-0 = cc in
    (e ∙ sym (stays (counts_in (case_of b)) (grounds_to12 b q) (bound_ground (case_of b) (certificate_of q) ∷ []) _ (to12 (goal.at.returns-in_default-prices c).After-prices_stage-prices ∙ e)), undecided e)

pub new-priced-requires : goal.new-priced-requires
new-priced-requires c =
    let e : c.prices_stage-prices.result ≡ Ok c.in-Ok-prices.n = cc in
    let passed = passed_clear _ _ _ (sym c.prices_stage-prices.ensures ∙ e) in
    rw passed.1 (priced (filed (goal.at.new-priced-requires c).In-Ok) passed.0)

pub returns : goal.returns
unfolding grounds_to13
returns c =
    let b = c.args.b.now in
    let q = c.args.q.now in
    let e : c.prices_stage-prices.result ≡ Ok c.in-Ok-prices.n = cc in
    let same : c.new-priced.result.case.bytes.now ≡ b = cc in
    let same_certificate : c.new-priced.result.certificate.bytes.now ≡ q = cc in
    let answer = rw (same, same_certificate) at c.quantities_stage.ensures.answer in (
      answer ∙ sym (one_more (counts_in (case_of b)) (grounds_to12 b q) (bound_ground (case_of b) (certificate_of q)) _ (to12 (goal.at.returns c).After-prices_stage-prices ∙ e)),
      decided _ _ _ (rw (same, c.new-priced.ensures.resources) at c.quantities_stage.ensures.decided) answer,
    )
