use Rattle.std.proofs.Common.{◌≡◌, ◌++◌, ◌∷◌, [], flat_map, take}
use Rattle.widl_idl.specs.Nodes.{AttributeNode}
use Rattle.widl_idl.specs.PlainTypes.{attribute_of}
use Rattle.widl_names.specs.Listings.{nodes_listed}
use Rattle.widl_names.proofs.listings.list_attributes.Given as goal

abbrev pub invariant-loop-attribute : goal.invariant-loop-attribute
invariant-loop-attribute l = nodes_listed l.nodes.items ≡ nodes_listed l.initial.nodes.items ++ flat_map (λ a. AttributeNode (attribute_of a) ∷ []) (take l.attribute-index l.attributes)
