use Rattle.std.proofs.Common.{map, arith, subst}
use Rattle.std.proofs.lemmas.List.{take_all}
use Rattle.widl_idl.specs.PlainTypes.{attribute_of}
use Rattle.widl_idl.specs.WrittenTypes.{notes_of}
use Rattle.widl_names.specs.SaidNotes.{Says}
use Rattle.widl_names.proofs.SaidNotes.{notes_more, says_one}
use Rattle.widl_names.proofs.annotations.Annotations.of.Goals as goal

pub loop-attribute-preserved : goal.loop-attribute-preserved
loop-attribute-preserved c = subst (Says c.followed_by-said.result) (notes_more c.args.attributes.now c.loop-attribute.attribute-index c.attribute-item.result (omega arith) c.attribute-item.is) (c.followed_by-said.ensures _ _ c.loop-attribute.invariant (says_one (attribute_of c.attribute-item.result) c.of_one.result c.of_one.ensures))

pub returns : goal.returns
returns c = subst (λ l. Says c.loop-attribute.said (notes_of (map attribute_of l))) (take_all c.loop-attribute.attribute-index c.args.attributes.now (omega arith)) c.loop-attribute.invariant
