use Rattle.std.proofs.Common.{take}
use Rattle.widl_idl.specs.PlainTrees.{plain_definitions}
use Rattle.widl_names.specs.Listings.{listed_definitions}
use Rattle.widl_merge.specs.GrownLists.{AreListed}
use Rattle.widl_merge.proofs.defs.merge_definitions.Given as goal

abbrev pub invariant-loop-number : goal.invariant-loop-number
invariant-loop-number l = AreListed (plain_definitions l.scope) (listed_definitions (take l.number l.definitions)) l.defs
