use Rattle.std.proofs.Common.{take}
use Rattle.widl_idl.specs.First.{AtOne, FirstWhere}
use Rattle.widl_idl.specs.PlainTrees.{plain_definitions}
use Rattle.widl_names.specs.Listings.{listed_definitions}
use Rattle.widl_merge.specs.Repeats.{RepeatsAt}
use Rattle.widl_merge.proofs.operations.first_in_two_parts.Given as goal

abbrev pub invariant-loop-number : goal.invariant-loop-number
invariant-loop-number l = FirstWhere (AtOne (RepeatsAt (plain_definitions l.fn.scope)) (listed_definitions (take l.number l.definitions))) l.best
