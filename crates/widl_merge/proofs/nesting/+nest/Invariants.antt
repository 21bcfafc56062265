use Rattle.std.proofs.Common.{◌≡◌, take}
use Rattle.widl_idl.specs.Nesting.{union_depth}
use Rattle.widl_idl.specs.PlainTrees.{plain_definitions}
use Rattle.widl_idl.specs.PlainTypes.{union_of}
use Rattle.widl_merge.specs.Depths.{capped, table_depth}
use Rattle.widl_merge.proofs.nesting.+nest.Given as goal

abbrev pub invariant-union_depth-loop-member : goal.invariant-union_depth-loop-member
invariant-union_depth-loop-member l = l.deepest ≡ capped (union_depth (table_depth (plain_definitions l.meanings) l.depths) (union_of (take l.member-index l.members)))
