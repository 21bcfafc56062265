use Rattle.std.proofs.Common.{sym, ap, ◌∙◌}
use Rattle.widl_idl.specs.Terms.{type_term}
use Rattle.widl_fits.specs.Fitting.{fits_if}
use Rattle.widl_fits.proofs.Fits.{nothing_fits}
use Rattle.widl_inheritance.proofs.fitting.value_fits.Goals as goal

pub returns-in-None : goal.returns-in-None
returns-in-None c = sym (ap (λ o. fits_if c.args.tables.now o (type_term c.args.t.now)) c.in-None.is ∙ nothing_fits c.args.tables.now (type_term c.args.t.now))
