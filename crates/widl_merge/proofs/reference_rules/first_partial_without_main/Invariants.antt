use Rattle.std.proofs.Common.{take}
use Rattle.widl_idl.specs.First.{FirstWhere, Somewhere}
use Rattle.widl_idl.specs.MergingRules.{IsWithoutMain}
use Rattle.widl_idl.specs.PlainTrees.{plain_definitions}
use Rattle.widl_merge.proofs.reference_rules.first_partial_without_main.Given as goal

abbrev pub invariant-loop-definition : goal.invariant-loop-definition
invariant-loop-definition l = FirstWhere (Somewhere (IsWithoutMain (plain_definitions l.meanings)) (take l.definition-index (plain_definitions l.meanings))) l.best
