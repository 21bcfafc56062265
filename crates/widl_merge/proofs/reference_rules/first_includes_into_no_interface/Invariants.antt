use Rattle.std.proofs.Common.{take}
use Rattle.widl_idl.specs.First.{FirstWhere, Somewhere}
use Rattle.widl_idl.specs.MergingRules.{IncludesIntoOther}
use Rattle.widl_idl.specs.PlainTrees.{plain_definitions}
use Rattle.widl_merge.proofs.reference_rules.first_includes_into_no_interface.Given as goal

abbrev pub invariant-loop-definition : goal.invariant-loop-definition
invariant-loop-definition l = FirstWhere (Somewhere (IncludesIntoOther (plain_definitions l.meanings)) (take l.definition-index (plain_definitions l.meanings))) l.best
