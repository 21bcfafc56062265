use Rattle.widl_idl.specs.Terms.{type_term}
use Rattle.widl_script_rules.proofs.TypeFits.{told_by_test}
use Rattle.widl_script_rules.proofs.fits.type_fits.Goals as goal

pub returns : goal.returns
returns c = told_by_test (type_term c.args.source.now) (type_term c.args.wanted.now) c.fits_by.result c.fits_by.ensures
