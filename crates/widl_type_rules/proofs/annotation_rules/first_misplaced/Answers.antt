use Rattle.std.proofs.Common.{map, arith, refl}
use Rattle.widl_idl.specs.PlainTypes.{attribute_of}
use Rattle.widl_idl.specs.Terms.{type_term}
use Rattle.widl_names.proofs.Mapped.{next_somewhere, all_somewhere}
use Rattle.widl_type_rules.specs.Misplaced.{IsMisplacedOn}
use Rattle.widl_type_rules.proofs.annotation_rules.first_misplaced.Goals as goal

pub loop-attribute-preserved : goal.loop-attribute-preserved
loop-attribute-preserved c = next_somewhere attribute_of c.args.attributes.now (map attribute_of c.args.attributes.now) refl (IsMisplacedOn (type_term c.args.inner.now)) c.loop-attribute.attribute-index c.attribute-item.result c.loop-attribute.best c.misplaced-found.result _ (omega arith) c.attribute-item.is c.loop-attribute.invariant c.misplaced-found.ensures c.earlier_violation-best.ensures

pub returns : goal.returns
returns c = all_somewhere attribute_of c.args.attributes.now (map attribute_of c.args.attributes.now) refl (IsMisplacedOn (type_term c.args.inner.now)) c.loop-attribute.attribute-index c.loop-attribute.best (omega arith) c.loop-attribute.invariant
