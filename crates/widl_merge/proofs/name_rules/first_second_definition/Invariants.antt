use Rattle.widl_idl.specs.First.{FirstWhere, Upto}
use Rattle.widl_idl.specs.MergingRules.{IsSecondDefinition}
use Rattle.widl_idl.specs.PlainTrees.{plain_definitions}
use Rattle.widl_merge.proofs.name_rules.first_second_definition.Given as goal

abbrev pub invariant-loop-number : goal.invariant-loop-number
invariant-loop-number l = FirstWhere (Upto IsSecondDefinition (plain_definitions l.meanings) l.number) l.best
