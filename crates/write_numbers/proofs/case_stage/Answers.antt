use mathlib.Core.Path.{◌≡◌, sym, ◌∙◌}
use borrow.Author.Rules.{rules}
use Rattle.std.specs.Prelude.{Result, Err}
use Rattle.market.specs.declared.Counts.{Counts}
use Rattle.market.specs.declared.Refusal.{Refusal}
use Rattle.fields.specs.declared.File.TheVariants.{Case}
use Rattle.write_numbers.proofs.Stages.{list_passed, list_refused}
use Rattle.write_numbers.proofs.case_stage.Goals as goal

pub returns-in_err-counts : goal.returns-in_err-counts
returns-in_err-counts c =
    let e : ◌≡◌ {A = Result Counts Refusal} c.from_residual.result (Err c.in_err-counts.field-0.0) = search rules in
    e ∙ list_refused Case c.args.v.now _ (sym c.list_stage.ensures ∙ c.in_err-counts.was)

pub filed_stage-requires : goal.filed_stage-requires
filed_stage-requires c = list_passed Case c.args.v.now _ (sym c.list_stage.ensures ∙ c.in_ok-counts.was)
