use Rattle.prices.proofs.Written.{lmps_written}
use Rattle.prices.specs.PricedCase.{case_bytes, certificate_bytes}
use Rattle.valuations.proofs.resources_value.Goals as goal

pub sum_values-requires : goal.sum_values-requires
sum_values-requires c = lmps_written (case_bytes c.args.kept.now.bounded.priced) (certificate_bytes c.args.kept.now.bounded.priced) c.args.kept.now.bounded.priced.case.resources _ _ c.write_lmps.ensures
