use Rattle.std.proofs.Common.{length, take}
use Rattle.widl_idl.specs.PlainTrees.{plain_definitions}
use Rattle.widl_names.specs.Listings.{listed_definitions}
use Rattle.widl_names.specs.PartTables.{Grouped, mixin_at}
use Rattle.widl_names.proofs.parts.group_mixins.Given as goal

abbrev pub invariant-loop-definition : goal.invariant-loop-definition
invariant-loop-definition l = Grouped (λ n. n) (mixin_at (plain_definitions l.fn.meanings)) l.groups.items (listed_definitions (take l.definition-index l.definitions)) (length l.fn.meanings)
