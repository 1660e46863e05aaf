-- Both files of a priced case count the same resources.
use mathlib.Core.Path.{◌≡◌, sym, ◌∙◌}
use Rattle.prices.specs.declared.priced_case.PricedCase.{PricedCase}

module _ (p : PricedCase) where
  pub same_resources : p.certificate.resources ≡ p.case.resources
  same_resources = sym p.certificate.whole.resources_are ∙ p.prices_stand.certificate_bytes.resources_are
