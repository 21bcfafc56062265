use Rattle.widl_idl.specs.Terms.{type_term}
use Rattle.widl_fits.proofs.DefaultValues.{told_by_tests}
use Rattle.widl_fits.proofs.literals.literal_fits.Goals as goal

pub returns-clause-fits : goal.returns-clause-fits
returns-clause-fits c = told_by_tests c.args.tables.now (type_term c.args.t.now) c.args.literal.now c.is_null_or_taken.result c.literal_is_of_program.ensures c.is_null_or_taken.ensures
