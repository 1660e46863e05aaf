use Rattle.fields.proofs.File.field_at.Goals as goal

pub returns-in-Case : goal.returns-in-Case
returns-in-Case c = rw c.in-Case.is c.case_field.ensures

pub returns-in-Certificate : goal.returns-in-Certificate
returns-in-Certificate c = rw c.in-Certificate.is (c.certificate_field.ensures c.args.n.resources c.args.n.zones)
