use Rattle.std.proofs.Common.{take}
use Rattle.widl_idl.specs.MergingRules.{portions_from}
use Rattle.widl_idl.specs.PlainTrees.{plain_definitions}
use Rattle.widl_names.specs.Listings.{listed_definitions}
use Rattle.widl_merge.proofs.Portioned.{SumsUp}
use Rattle.widl_merge.proofs.sums.first_past_limit.Given as goal

abbrev pub invariant-loop-number : goal.invariant-loop-number
invariant-loop-number l = SumsUp (portions_from (plain_definitions l.fn.meanings) 0 (listed_definitions (take l.number l.definitions))) l.sum l.best
