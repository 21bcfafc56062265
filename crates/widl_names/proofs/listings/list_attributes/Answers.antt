use Rattle.std.proofs.Common.{arith, [], ◌∷◌, sym, ◌∙◌}
use Rattle.std.proofs.lemmas.List.Concat.{flat_map_single}
use Rattle.std.proofs.lemmas.Simd.{map-map}
use Rattle.widl_idl.specs.Nodes.{AttributeNode}
use Rattle.widl_idl.specs.PlainTypes.{attribute_of}
use Rattle.widl_names.proofs.Listed.{listed_all, listed_more}
use Rattle.widl_names.proofs.listings.list_attributes.Goals as goal

pub loop-attribute-preserved : goal.loop-attribute-preserved
loop-attribute-preserved c = listed_more (λ a. AttributeNode (attribute_of a) ∷ []) c.args.attributes.now c.loop-attribute.attribute-index c.attribute-item.result _ _ _ c.loop-attribute-test.true c.attribute-item.is c.in_ok-list_node.ensures c.loop-attribute.invariant

pub returns : goal.returns
returns c = listed_all (λ a. AttributeNode (attribute_of a) ∷ []) c.args.attributes.now c.loop-attribute.attribute-index _ _ _ (omega arith) (flat_map_single (λ a. AttributeNode (attribute_of a)) c.args.attributes.now ∙ sym (map-map AttributeNode attribute_of c.args.attributes.now)) c.loop-attribute.invariant
