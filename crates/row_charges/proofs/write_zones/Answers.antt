use mathlib.Core.List.{map}
use mathlib.Core.Path.{refl}
use native.Mathlib.Omega.{arith}
use Rattle.arith.specs.Sums.{upto, across}
use Rattle.market.specs.Case.{zoned_curves}
use Rattle.market.specs.Rows.{zone_row, zone_row_count}
use Rattle.row_charges.specs.Families.{row_charge_in}
use Rattle.row_charges.proofs.Written.{block_written}
use Rattle.prices.specs.PricedCase.{case_bytes, certificate_bytes}
use Rattle.row_charges.proofs.write_zones.Goals as goal

pub loop-zone-init : goal.loop-zone-init
unfolding upto across
loop-zone-init c = refl

pub loop-zone-preserved : goal.loop-zone-preserved
loop-zone-preserved c =
    let l = c.loop-zone in
    block_written (row_charge_in (case_bytes c.args.have.now.bounded.priced) (certificate_bytes c.args.have.now.bounded.priced)) (λ k. map (zone_row k) zoned_curves) zone_row_count (λ k. refl) l.zone c.args.out.now l.out c.write_zone.new.out (omega arith) l.invariant c.write_zone.ensures
