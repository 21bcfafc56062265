use Rattle.std.proofs.Common.{ap, map}
use Rattle.widl_idl.specs.PlainTrees.{definition_of, members_of}
use Rattle.widl_idl.specs.PlainTypes.{attribute_of}
use Rattle.widl_definition_rules.proofs.DefinitionPlaces.{definition_annotated}
use Rattle.widl_definition_rules.proofs.definition_rules.first_annotation_of_no_type.Goals as goal

pub returns : goal.returns
returns c = definition_annotated (definition_of c.args.definition.now) (map attribute_of c.as_slice.result.now) (members_of c.members_written.result.now) c.first_annotation-own.result c.annotation_in_members-inner.result c.earlier_violation.result (ap (map attribute_of) c.as_slice.ensures) c.members_written.ensures c.first_annotation-own.ensures c.annotation_in_members-inner.ensures c.earlier_violation.ensures
