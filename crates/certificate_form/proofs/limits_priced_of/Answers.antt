use Rattle.std.proofs.Common.{◌∙◌}
use Rattle.market.specs.Certificate.{certificate_as}
use Rattle.certificate_form.proofs.PricesWithin.{limits_in}
use Rattle.certificate_form.proofs.limits_priced_of.Goals as goal

pub all_at_most-requires : goal.all_at_most-requires
unfolding certificate_as
all_at_most-requires c = rw (c.amounts_place-place.ensures, c.services.ensures, c.resource_rows.ensures, c.version-version.ensures) (limits_in c.args.certificate.now.whole c.args.i c.requires)

pub returns : goal.returns
unfolding certificate_as
returns c = c.all_at_most.ensures ∙ rw (c.amounts_place-place.ensures, c.services.ensures, c.resource_rows.ensures, c.version-version.ensures)
