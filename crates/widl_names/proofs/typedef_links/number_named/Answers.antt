use Rattle.widl_idl.specs.PlainTrees.{plain_definitions}
use Rattle.widl_idl.specs.PlainTypes.{form_term}
use Rattle.widl_names.proofs.TypedefLinks.{meaning_within, named_under, none_under}
use Rattle.widl_names.proofs.typedef_links.number_named.Goals as goal

pub returns-clause-below : goal.returns-clause-below
returns-clause-below c = meaning_within c.args.meanings.now (form_term c.args.form.now) c.meaning_of_form.result c.meaning_of_form.ensures

pub returns-clause-named : goal.returns-clause-named
returns-clause-named c = named_under (plain_definitions c.args.meanings.now) (form_term c.args.form.now) c.meaning_of_form.result c.meaning_of_form.ensures

pub returns-clause-none : goal.returns-clause-none
returns-clause-none c = none_under (plain_definitions c.args.meanings.now) (form_term c.args.form.now) c.meaning_of_form.result c.meaning_of_form.ensures
