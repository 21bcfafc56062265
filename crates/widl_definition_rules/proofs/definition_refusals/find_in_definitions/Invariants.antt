use Rattle.std.proofs.Common.{take}
use Rattle.widl_names.specs.Listings.{listed_definitions}
use Rattle.widl_overload.specs.rules.OnDefinitions.{InOneDefinition, definition_rules}
use Rattle.widl_refusals.specs.Refusals.{IsFirst}
use Rattle.widl_definition_rules.proofs.definition_refusals.find_in_definitions.Given as goal

abbrev pub invariant-loop-definition : goal.invariant-loop-definition
invariant-loop-definition l = IsFirst (InOneDefinition (listed_definitions (take l.definition-index l.definitions))) definition_rules l.best
