use Rattle.std.specs.Prelude.{Ok, Err}
use mathlib.Core.Path.{◌≡◌, sym, ◌∙◌}
use native.Mathlib.Omega.{arith}
use Rattle.case_records.proofs.Places.{head_in}
use Rattle.market.specs.Outcome.{outcome}
use Rattle.report.proofs.Printed.{accepted_stands, refused_text}
use Rattle.report.proofs.outcome_text.Goals as goal
use Rattle.report.proofs.outcome_text.Goals.{In-Ok}

accepted : (c : In-Ok) → outcome c.args.b.now c.args.q.now ≡ Ok c.in-Ok.v
accepted c = let o = c.check_certificate in let e : o.result ≡ Ok c.in-Ok.v = cc in sym o.ensures.answer ∙ e

pub counts_at-n-requires : goal.counts_at-n-requires
counts_at-n-requires c = omega (arith, head_in (accepted_stands c.args.b.now c.args.q.now c.in-Ok.v (accepted (goal.at.counts_at-n-requires c).In-Ok)).prices.case_bytes)

pub new-priced-requires : goal.new-priced-requires
new-priced-requires c = rw c.counts_at-n.ensures (accepted_stands c.args.b.now c.args.q.now c.in-Ok.v (accepted (goal.at.new-priced-requires c).In-Ok)).prices

pub returns-in-Err : goal.returns-in-Err
returns-in-Err c = let o = c.check_certificate in let why = c.in-Err.why in let e : o.result ≡ Err why = cc in rw (← (refused_text c.args.b.now c.args.q.now why (sym o.ensures.answer ∙ e))) c.refusal_line.ensures
