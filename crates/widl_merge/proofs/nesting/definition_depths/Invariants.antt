use Rattle.std.proofs.Common.{◌≡◌, length}
use Rattle.widl_idl.specs.PlainTrees.{plain_definitions}
use Rattle.widl_merge.specs.Depths.{AreCapped, AreSteady}
use Rattle.widl_merge.proofs.nesting.definition_depths.Given as goal

abbrev pub invariant-loop-number : goal.invariant-loop-number
invariant-loop-number l = record {
  size : length l.depths.items ≡ length (plain_definitions l.meanings);
  small : AreCapped l.depths.items;
  known : AreSteady (plain_definitions l.meanings) l.walk.order.items l.number-index l.depths.items;
}
