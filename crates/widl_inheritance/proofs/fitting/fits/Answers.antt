use Rattle.std.proofs.Common.{ap, ◌∙◌}
use Rattle.widl_idl.specs.Terms.{type_term}
use Rattle.widl_fits.specs.Fitting.{fits_if}
use Rattle.widl_inheritance.proofs.fitting.fits.Goals as goal

pub returns : goal.returns
returns c = c.value_fits.ensures ∙ ap (λ o. fits_if c.args.tables.now o (type_term c.args.t.now)) c.in_ok-literal.ensures
