use Rattle.std.proofs.Common.{arith, flat_map}
use Rattle.widl_idl.specs.Nesting.{typedef_named, annotated_names}
use Rattle.widl_idl.specs.PlainTrees.{plain_definitions}
use Rattle.widl_idl.specs.PlainTypes.{annotated_of}
use Rattle.widl_merge.proofs.LinkGraphs.{union_named}
use Rattle.widl_names.proofs.Listed.{listed_all}
use Rattle.widl_merge.proofs.typedefs.+link.Goals as goal

pub add_union-returns : goal.add_union-returns
add_union-returns levels c = listed_all (λ m. flat_map (typedef_named (plain_definitions c.args.meanings.now)) (annotated_names (annotated_of m))) c.args.members.now c.loop-member.member-index _ _ _ (omega arith) (union_named (typedef_named (plain_definitions c.args.meanings.now)) c.args.members.now) c.loop-member.invariant
