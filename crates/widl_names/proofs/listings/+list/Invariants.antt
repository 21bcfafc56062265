use Rattle.std.proofs.Common.{◌≡◌, ◌++◌, flat_map, take}
use Rattle.widl_idl.specs.Nodes.{nodes_of_annotated}
use Rattle.widl_idl.specs.PlainTypes.{annotated_of}
use Rattle.widl_names.specs.Listings.{nodes_listed}
use Rattle.widl_names.proofs.listings.+list.Given as goal

abbrev pub invariant-list_union-loop-member : goal.invariant-list_union-loop-member
invariant-list_union-loop-member l = nodes_listed l.nodes.items ≡ nodes_listed l.initial.nodes.items ++ flat_map (λ m. nodes_of_annotated (annotated_of m)) (take l.member-index l.members)
