use Rattle.std.proofs.Common.{sym, ◌∙◌}
use Rattle.case_soundness.proofs.Parts.{powers_sound}
use Rattle.case_soundness.proofs.powers_sound.Goals as goal
use Rattle.case_soundness.proofs.powers_sound.Goals.{then-neighbours_sound, else-neighbours_sound, then-neighbours_sound-2, else-neighbours_sound-2}

pub returns-then-emergency_sound : goal.returns-then-emergency_sound
returns-then-emergency_sound c =
    elim c.if-neighbours_sound-2.branch [
      | then-neighbours_sound-2 w ↦ elim c.if-neighbours_sound.branch [
        | then-neighbours_sound v ↦
            λ t. powers_sound c.args.resource.now.bytes.now c.args.resource.now.at (rw c.behind_flags.ensures at (c.neighbours_sound.ensures v.if-neighbours_sound.true)) (rw v.behind_flags-then-neighbours_sound.ensures at (v.neighbours_sound-then-neighbours_sound.ensures cc)) (w.emergency_sound.ensures cc) (rw c.behind_minimum.ensures at (sym c.run_at_most.ensures ∙ t))
        | else-neighbours_sound v ↦ absurd cc
      ]
      | else-neighbours_sound-2 w ↦ absurd cc
    ]
