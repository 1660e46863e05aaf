-- The worked interval, self-schedules out of reach, trips, 12 flowgates and more, the refusals and the order of prices and charges, by
-- computation.
use Rattle.std.specs.Prelude.{Ok}
use mathlib.Core.Path.{◌≡◌, refl}
use lib.IntN.{pos}
use Rattle.arith.specs.Sums.{min_ℤ, max_ℤ, sum_of, total_of, upto, all, across}
use Rattle.market.specs.Case.{width_of}
use Rattle.market.specs.Version.{version_of}
use Rattle.market.specs.CaseFile.{case_as, resource_at}
use Rattle.market.specs.CaseCheck.{length_right, version_right, counts_right, case_size_right, reserve_in_range, resource_in_range, flowgate_in_range, fields_in_range, steps_follow, steps_right, energy_steps_right, steps_rule, pairs_ordered, limits_ordered}
use Rattle.market.specs.Availability.{has_tripped, running, availability_of, on_line}
use Rattle.market.specs.Limits.{max_of, min_of, hi_of, lo_of}
use Rattle.market.specs.UpperBounds.{quantities, ramp_of, share_of, on_line_bound, bound_when, service_bound, upper_bound}
use Rattle.market.specs.Rows.{rows, none, one, minus_one, entries, spins, in_reserve, in_limit, coefficient, right_side, left_side, slack}
use Rattle.market.specs.Certificate.{amount_at, price_at, certificate_as}
use Rattle.market.specs.Cost.{priced, quantity_of, service_price, offer, priced_upper_bound, filled, part, cost}
use Rattle.market.specs.Bound.{row_value, net_price, lowest, bound}
use Rattle.market.specs.Charges.{row_charge, priced_charge, charges}
use Rattle.market.specs.Prices.{lmp_of, zone_supplemental_price, zone_spinning_price, zone_regulating_price, zone_short_term_price, price_list}
use Rattle.market.specs.Refusals.{first_failing, first_of}
use Rattle.market.specs.Outcome.{case_grounds, case_answer, same_counts, form_grounds, certificate_grounds, valued, valuation, outcome, price_grounds, charge_grounds, price_answer, charge_answer}
use Rattle.market.specs.Numbers.{field_at, field_bytes, numbers_at, bytes_of, numbers_fit, times, case_fields, certificate_fields, file_of, numbers_of, certificate_file_grounds, read_case_grounds, read_certificate_grounds, read_case, read_certificate, counts_in_range, fields_for, file_for, list_grounds, write_case_grounds, write_certificate_grounds, write_case, write_certificate}
use Rattle.market.specs.Program.{digits_on, decimal, spaced, resource_line, zone_line, refusal_line, report, printed}
use Rattle.market.specs.Interval.{worked_k, worked_q}
use Rattle.market.specs.WorkedFlowgates.{flowgate_counts}
use Rattle.market.specs.WorkedTrips.{Trips, tripped_units}
use Rattle.market.specs.Worked.{intervals, self_schedules, refusals, orders, same, AsSaid}

pub worked : AsSaid intervals
unfolding min_ℤ max_ℤ sum_of upto all across width_of version_of case_as resource_at length_right version_right counts_right case_size_right reserve_in_range resource_in_range flowgate_in_range fields_in_range steps_follow steps_right energy_steps_right steps_rule pairs_ordered limits_ordered has_tripped running availability_of on_line max_of min_of hi_of lo_of quantities ramp_of share_of on_line_bound bound_when service_bound upper_bound rows none one minus_one entries spins in_reserve in_limit coefficient right_side left_side slack amount_at price_at certificate_as priced quantity_of service_price offer priced_upper_bound filled part cost row_value net_price lowest bound lmp_of zone_supplemental_price zone_spinning_price zone_regulating_price zone_short_term_price first_failing first_of case_grounds same_counts form_grounds certificate_grounds valuation outcome digits_on decimal spaced resource_line zone_line refusal_line report printed same
worked = tt

pub self_schedules_lem : AsSaid self_schedules
unfolding min_ℤ max_ℤ sum_of upto all across width_of version_of case_as resource_at length_right version_right counts_right case_size_right reserve_in_range resource_in_range flowgate_in_range fields_in_range steps_follow steps_right energy_steps_right steps_rule pairs_ordered limits_ordered has_tripped running availability_of on_line max_of min_of hi_of lo_of quantities ramp_of share_of on_line_bound bound_when service_bound upper_bound rows none one minus_one entries spins in_reserve in_limit coefficient right_side left_side slack amount_at price_at certificate_as priced quantity_of service_price offer priced_upper_bound filled part cost row_value net_price lowest bound first_failing first_of case_grounds same_counts form_grounds certificate_grounds valuation outcome same
self_schedules_lem = tt

pub trips : Trips
unfolding version_of case_as resource_at has_tripped running availability_of
trips =
    record {
      tripped_at_15 = refl;
      on_line_at_16 = refl;
      tripped_with_open_breaker = refl;
      tripped_without_output = refl;
      off_line_at_16 = refl;
      intermittent_at_15 = refl;
      external_at_15 = refl;
      external_off_line_at_15 = refl;
    }

pub tripped_units_lem : AsSaid tripped_units
unfolding min_ℤ max_ℤ sum_of upto all across width_of version_of case_as resource_at length_right version_right counts_right case_size_right reserve_in_range resource_in_range flowgate_in_range fields_in_range steps_follow steps_right energy_steps_right steps_rule pairs_ordered limits_ordered has_tripped running availability_of on_line max_of min_of hi_of lo_of quantities ramp_of share_of on_line_bound bound_when service_bound upper_bound rows none one minus_one entries spins in_reserve in_limit coefficient right_side left_side slack amount_at price_at certificate_as priced quantity_of service_price offer priced_upper_bound filled part cost row_value net_price lowest bound first_failing first_of case_grounds same_counts form_grounds certificate_grounds valuation outcome same
tripped_units_lem = tt

pub flowgate_counts_lem : AsSaid flowgate_counts
unfolding sum_of total_of upto all across width_of version_of case_as resource_at length_right version_right counts_right case_size_right reserve_in_range resource_in_range flowgate_in_range fields_in_range steps_follow steps_right energy_steps_right steps_rule pairs_ordered limits_ordered has_tripped running availability_of on_line max_of quantities ramp_of share_of on_line_bound bound_when service_bound upper_bound rows amount_at price_at certificate_as lmp_of first_failing first_of case_grounds case_answer same_counts form_grounds certificate_grounds outcome field_at numbers_at numbers_fit times case_fields certificate_fields numbers_of certificate_file_grounds read_certificate_grounds read_certificate counts_in_range fields_for list_grounds write_case_grounds write_certificate_grounds write_case write_certificate same
flowgate_counts_lem = tt

pub each_refusal : AsSaid refusals
unfolding min_ℤ max_ℤ sum_of total_of upto all across width_of version_of case_as resource_at length_right version_right counts_right case_size_right reserve_in_range resource_in_range flowgate_in_range fields_in_range steps_follow steps_right energy_steps_right steps_rule pairs_ordered limits_ordered has_tripped running availability_of on_line max_of min_of hi_of lo_of quantities ramp_of share_of on_line_bound bound_when service_bound upper_bound rows none one minus_one entries spins in_reserve in_limit coefficient right_side left_side slack amount_at price_at certificate_as priced quantity_of service_price offer priced_upper_bound filled part cost row_value net_price lowest bound lmp_of zone_supplemental_price zone_spinning_price zone_regulating_price zone_short_term_price first_failing first_of case_grounds case_answer same_counts form_grounds certificate_grounds valuation outcome price_grounds charge_grounds price_answer charge_answer field_at field_bytes numbers_at bytes_of numbers_fit times case_fields certificate_fields file_of numbers_of certificate_file_grounds read_case_grounds read_certificate_grounds read_case read_certificate counts_in_range fields_for file_for list_grounds write_case_grounds write_certificate_grounds write_case write_certificate digits_on decimal spaced resource_line zone_line refusal_line report printed same
each_refusal = tt

pub in_order : AsSaid orders
unfolding min_ℤ max_ℤ sum_of upto all across width_of version_of case_as resource_at has_tripped running availability_of on_line max_of min_of hi_of lo_of quantities ramp_of share_of on_line_bound bound_when service_bound rows none one minus_one entries spins in_reserve in_limit coefficient right_side left_side slack amount_at price_at certificate_as priced quantity_of service_price offer priced_upper_bound filled part row_value net_price lowest row_charge priced_charge charges lmp_of zone_supplemental_price zone_spinning_price zone_regulating_price zone_short_term_price price_list digits_on decimal spaced resource_line same
in_order = tt

-- so what is shown of accepted certificates is not shown of none
pub worked_k_accepted : outcome worked_k worked_q ≡ Ok (valued (pos 140000000000) (pos 140000000000) (pos 0))
unfolding min_ℤ max_ℤ sum_of upto all across width_of version_of case_as resource_at length_right version_right counts_right case_size_right reserve_in_range resource_in_range flowgate_in_range fields_in_range steps_follow steps_right energy_steps_right steps_rule pairs_ordered limits_ordered has_tripped running availability_of on_line max_of min_of hi_of lo_of quantities ramp_of share_of on_line_bound bound_when service_bound upper_bound rows none one minus_one entries spins in_reserve in_limit coefficient right_side left_side slack amount_at price_at certificate_as priced quantity_of service_price offer priced_upper_bound filled part cost row_value net_price lowest bound first_failing first_of case_grounds same_counts form_grounds certificate_grounds valuation outcome
worked_k_accepted = refl
