use mathlib.Core.Path.{◌≡◌, sym, ◌∙◌}
use borrow.Author.Rules.{rules}
use Rattle.std.specs.Prelude.{Result, Err, ℕ}
use Rattle.market.specs.declared.Refusal.{Refusal}
use Rattle.case_check.proofs.Passing.{passed_clear}
use Rattle.fields.specs.declared.File.TheVariants.{Case}
use Rattle.write_numbers.proofs.Handed.{case_written, write_refused}
use Rattle.write_numbers.proofs.write_case.Goals as goal

pub returns-in_err-n : goal.returns-in_err-n
returns-in_err-n c =
    let e : ◌≡◌ {A = Result ℕ Refusal} c.from_residual.result (Err c.in_err-n.field-0.0) = search rules in
    case_written _ _ _ _ (rw e (write_refused Case c.args.v.now c.args.out.now _ (sym c.case_stage.ensures ∙ c.in_err-n.was)))

pub hand_over-requires : goal.hand_over-requires
hand_over-requires c = passed_clear _ _ _ (sym c.case_stage.ensures ∙ c.in_ok-n.was)

pub returns : goal.returns
returns c = case_written _ _ _ _ c.hand_over.ensures
