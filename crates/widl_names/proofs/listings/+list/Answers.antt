use Rattle.std.proofs.Common.{arith}
use Rattle.widl_idl.specs.Nodes.{nodes_of_annotated}
use Rattle.widl_idl.specs.PlainTypes.{annotated_of}
use Rattle.widl_names.proofs.Listed.{listed_all, union_listed}
use Rattle.widl_names.proofs.listings.+list.Goals as goal

pub list_union-returns : goal.list_union-returns
list_union-returns levels c = listed_all (λ m. nodes_of_annotated (annotated_of m)) c.args.members.now c.loop-member.member-index _ _ _ (omega arith) (union_listed c.args.members.now) c.loop-member.invariant
