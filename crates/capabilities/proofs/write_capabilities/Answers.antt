use mathlib.Core.Path.{◌∙◌, subst}
use Prim.Native.Nat.{ℕ, ◌+◌}
use lib.ListN.{set}
use native.Mathlib.Omega.{arith}
use Rattle.case_records.proofs.Places.{resources_is}
use Rattle.case_records.proofs.Ranged.{valid_resource}
use Rattle.case_reader.specs.Reader.{case_in}
use Rattle.limits.proofs.Products.{terms_ranged}
use Rattle.capabilities.specs.Kept.{Kept}
use Rattle.capabilities.proofs.Places.{one_more_kept}
use Rattle.capabilities.proofs.write_capabilities.Goals as goal

pub terms_in_range-terms-requires : goal.terms_in_range-terms-requires
terms_in_range-terms-requires c = terms_ranged _ c.requires.0 c.terms.ensures

pub invariant_of-resource : goal.invariant_of-resource
invariant_of-resource c = record { ranged = rw c.resource.ensures (valid_resource _ c.requires.0 c.loop-i.i (omega (arith, resources_is c.args.case.now.whole))) }

pub loop-i-preserved : goal.loop-i-preserved
loop-i-preserved c = subst (λ (j : ℕ). Kept (case_in c.args.case.now) (c.loop-i.i + 1) (set c.loop-i.out j c.capability_of.result)) (omega arith) (one_more_kept (case_in c.args.case.now) c.loop-i.i c.loop-i.out c.loop-i.invariant (omega arith) c.capability_of.result (c.capability_of.ensures _ _ (c.terms_in_range-terms.ensures ∙ c.terms.ensures) c.resource.ensures))
