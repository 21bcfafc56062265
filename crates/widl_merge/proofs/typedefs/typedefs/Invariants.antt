use Rattle.std.proofs.Common.{◌≡◌, map, take}
use Rattle.widl_idl.specs.Nesting.{typedefs_in}
use Rattle.widl_idl.specs.PlainTrees.{plain_definitions}
use Rattle.widl_merge.proofs.typedefs.typedefs.Given as goal

abbrev pub invariant-loop-definition : goal.invariant-loop-definition
invariant-loop-definition l = l.graph ≡ map (λ d. typedefs_in (plain_definitions l.meanings) d.kind) (take l.definition-index (plain_definitions l.meanings))
