use Rattle.std.proofs.Common.{◌≡◌, map, take}
use Rattle.widl_idl.specs.Meanings.{kind_of}
use Rattle.widl_idl.specs.MergingRules.{parent_numbers, parent_of}
use Rattle.widl_idl.specs.PlainTrees.{plain_definitions}
use Rattle.widl_names.proofs.parents.parent_graph.Given as goal

abbrev pub invariant-loop-definition : goal.invariant-loop-definition
invariant-loop-definition l = l.graph ≡ map (λ d. parent_numbers (plain_definitions l.meanings) (kind_of d.kind) (parent_of d.kind)) (take l.definition-index (plain_definitions l.meanings))
