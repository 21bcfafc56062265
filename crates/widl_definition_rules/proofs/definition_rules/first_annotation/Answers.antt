use Rattle.std.proofs.Common.{arith}
use Rattle.widl_idl.specs.PlainTypes.{attribute_of}
use Rattle.widl_overload.specs.rules.DefinitionRules.{IsAnnotation}
use Rattle.widl_names.proofs.MappedLoops.{somewhere_end, somewhere_step}
use Rattle.widl_definition_rules.proofs.definition_rules.first_annotation.Goals as goal

pub loop-attribute-preserved : goal.loop-attribute-preserved
loop-attribute-preserved c = somewhere_step attribute_of c.args.attributes.now IsAnnotation c.loop-attribute.attribute-index c.attribute-item.result c.loop-attribute.best c.annotation_at-found.result c.earlier_violation-best.result (omega arith) c.attribute-item.is c.earlier_violation-best.ensures c.annotation_at-found.ensures c.loop-attribute.invariant

pub returns : goal.returns
returns c = somewhere_end attribute_of c.args.attributes.now IsAnnotation c.loop-attribute.attribute-index c.loop-attribute.best (omega arith) c.loop-attribute.invariant
