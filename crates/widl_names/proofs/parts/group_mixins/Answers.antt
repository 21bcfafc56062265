use Rattle.std.proofs.Common.{arith, length}
use Rattle.widl_idl.specs.PlainTrees.{plain_definitions}
use Rattle.widl_names.specs.PartTables.{mixin_at}
use Rattle.widl_names.proofs.PlainLists.{listed_same}
use Rattle.widl_names.proofs.PartLists.{group_all_same}
use Rattle.widl_names.proofs.parts.group_mixins.Goals as goal

pub returns : goal.returns
returns c = group_all_same (mixin_at (plain_definitions c.args.meanings.now)) c.loop-definition.groups.items c.all-definitions.result.now c.loop-definition.definition-index (length c.args.meanings.now) (plain_definitions c.args.meanings.now) (omega arith) (listed_same c.all-definitions.result.now c.args.meanings.now c.all-definitions.ensures) c.loop-definition.invariant
