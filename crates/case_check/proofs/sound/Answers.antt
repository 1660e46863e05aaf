use Rattle.std.proofs.Common.{ap, sym, ◌∙◌, Bor, List, ℕ}
use Rattle.case_check.proofs.Places.{case_sound}
use Rattle.case_check.proofs.sound.Goals as goal
use Rattle.case_check.proofs.sound.Goals.{then-head_right, else-head_right, then-zones_in_range, else-zones_in_range}

pub returns-then-resources_sound : goal.returns-then-resources_sound
returns-then-resources_sound c =
    elim c.if-zones_in_range.branch [
      | then-zones_in_range w ↦ elim c.if-head_right.branch [
        | then-head_right v ↦
            λ t. case_sound c.args.case.now.whole (ap (λ (s : Bor (List ℕ)). s.now) c.head.ensures) (sym c.head_right.ensures ∙ v.if-head_right.true) (sym v.zones_in_range.ensures ∙ cc) (w.resources_sound.ensures cc) (sym c.flowgates_in_range.ensures ∙ t)
        | else-head_right v ↦ absurd cc
      ]
      | else-zones_in_range w ↦ absurd cc
    ]
