use Rattle.std.proofs.Common.{◌≡◌, ◌++◌, flat_map, take}
use Rattle.widl_idl.specs.Nesting.{typedef_named, annotated_names}
use Rattle.widl_idl.specs.PlainTrees.{plain_definitions}
use Rattle.widl_idl.specs.PlainTypes.{annotated_of}
use Rattle.widl_merge.proofs.typedefs.+link.Given as goal

abbrev pub invariant-add_union-loop-member : goal.invariant-add_union-loop-member
invariant-add_union-loop-member l = l.named.items ≡ l.initial.named.items ++ flat_map (λ m. flat_map (typedef_named (plain_definitions l.meanings)) (annotated_names (annotated_of m))) (take l.member-index l.members)
