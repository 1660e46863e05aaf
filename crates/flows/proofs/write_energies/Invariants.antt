use Rattle.flows.specs.Parts.{EnergyParts}
use Rattle.flows.proofs.write_energies.Given as goal

abbrev pub invariant-loop-i : goal.invariant-loop-i
invariant-loop-i l = EnergyParts l.certificate.bytes.now l.i l.parts
