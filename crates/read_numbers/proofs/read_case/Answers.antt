use mathlib.Core.Path.{◌≡◌, sym, ◌∙◌}
use native.Mathlib.Omega.{arith}
use borrow.Author.Rules.{rules}
use Rattle.std.specs.Prelude.{Result, Err, ℕ}
use Rattle.market.specs.declared.Refusal.{Refusal}
use Rattle.market.specs.CaseFile.{case_as}
use Rattle.case_check.proofs.Passing.{passed_clear}
use Rattle.fields.specs.declared.File.TheVariants.{Case}
use Rattle.read_numbers.proofs.Handed.{case_read, bytes_of, read_refused}
use Rattle.read_numbers.proofs.read_case.Goals as goal

pub returns-in_err-n : goal.returns-in_err-n
returns-in_err-n c =
    let e : ◌≡◌ {A = Result ℕ Refusal} c.from_residual.result (Err c.in_err-n.field-0.0) = search rules in
    case_read _ _ _ _ (bytes_of c.args.b.now (λ i. omega (arith, c.type_inv.b i))) (rw e (read_refused Case c.args.b.now c.args.out.now _ _ (sym c.case_stage.ensures ∙ c.in_err-n.was)))

pub hand_over-requires : goal.hand_over-requires
unfolding case_as
hand_over-requires c = passed_clear _ _ _ (sym c.case_stage.ensures ∙ c.in_ok-n.was)

pub returns : goal.returns
returns c = case_read _ _ _ _ (bytes_of c.args.b.now (λ i. omega (arith, c.type_inv.b i))) c.hand_over.ensures
