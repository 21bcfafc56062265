use Rattle.widl_definition_rules.proofs.DefinitionPlaces.{early_found}
use Rattle.widl_definition_rules.proofs.definition_rules.has_early_ellipsis.Goals as goal

pub returns-in-Some : goal.returns-in-Some
returns-in-Some c = early_found c.args.arguments.now c.in-Some.others.now c.in-Some.field-0-0.now c.has_ellipsis.result c.in-Some.ensures.cases.0 c.has_ellipsis.ensures
