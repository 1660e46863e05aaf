use mathlib.Core.Path.{◌≡◌, sym, ◌∙◌}
use Rattle.market.specs.Numbers.{list_grounds}
use borrow.Author.Rules.{rules}
use Rattle.std.specs.Prelude.{Result, Err, ℕ}
use Rattle.market.specs.declared.Refusal.{Refusal}
use Rattle.case_check.proofs.Passing.{passed_clear}
use Rattle.fields.specs.declared.File.TheVariants.{Certificate}
use Rattle.write_numbers.proofs.Handed.{certificate_written, write_refused}
use Rattle.write_numbers.proofs.write_certificate.Goals as goal

pub returns-in_err-n : goal.returns-in_err-n
unfolding list_grounds
returns-in_err-n c =
    let e : ◌≡◌ {A = Result ℕ Refusal} c.from_residual.result (Err c.in_err-n.field-0.0) = search rules in
    certificate_written _ _ _ _ (rw e (write_refused Certificate c.args.v.now c.args.out.now _ (sym c.list_stage.ensures ∙ c.in_err-n.was)))

pub hand_over-requires : goal.hand_over-requires
unfolding list_grounds
hand_over-requires c = passed_clear _ _ _ (sym c.list_stage.ensures ∙ c.in_ok-n.was)

pub returns : goal.returns
returns c = certificate_written _ _ _ _ c.hand_over.ensures
