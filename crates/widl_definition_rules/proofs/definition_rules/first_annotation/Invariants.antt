use Rattle.std.proofs.Common.{map, take}
use Rattle.widl_idl.specs.First.{FirstWhere, Somewhere}
use Rattle.widl_idl.specs.PlainTypes.{attribute_of}
use Rattle.widl_overload.specs.rules.DefinitionRules.{IsAnnotation}
use Rattle.widl_definition_rules.proofs.definition_rules.first_annotation.Given as goal

abbrev pub invariant-loop-attribute : goal.invariant-loop-attribute
invariant-loop-attribute l = FirstWhere (Somewhere IsAnnotation (map attribute_of (take l.attribute-index l.attributes))) l.best
