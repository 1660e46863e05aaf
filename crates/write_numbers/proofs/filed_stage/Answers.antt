use mathlib.Core.Path.{ap, ◌∙◌}
use mathlib.Core.List.{List}
use Prim.Native.Nat.{ℕ}
use Rattle.market.specs.CaseFile.{case_of}
use Rattle.market.specs.Records.{counts_in}
use Rattle.market.specs.Refusals.{answered, first_of}
use Rattle.market.specs.Outcome.{case_grounds}
use Rattle.fields.specs.declared.File.TheVariants.{Case}
use Rattle.write_numbers.proofs.Handed.{file_whole}
use Rattle.write_numbers.proofs.Stages.{filed}
use Rattle.write_numbers.proofs.filed_stage.Goals as goal

pub invariant_of-list : goal.invariant_of-list
invariant_of-list c = record { listed = c.requires }

pub returns : goal.returns
returns c =
    let v = c.args.v.now in
    let n = c.args.counts in
    let file = rw (← c.size.ensures.0) at c.put.ensures in
    c.case_stage.ensures
    ∙ ap (λ (x : List ℕ). answered (counts_in (case_of x)) (first_of (case_grounds x))) (file_whole Case v n.version n.resources n.zones n.flowgates c.requires c.size.result _ c.put.new.out file)
    ∙ filed v c.requires.none_holds
