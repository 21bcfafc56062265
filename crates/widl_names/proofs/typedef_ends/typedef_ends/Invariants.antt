use Rattle.widl_idl.specs.PlainTrees.{plain_definitions}
use Rattle.widl_names.specs.TypedefEnds.{AreEnds}
use Rattle.widl_names.proofs.typedef_ends.typedef_ends.Given as goal

abbrev pub invariant-loop-number : goal.invariant-loop-number
invariant-loop-number l = AreEnds (plain_definitions l.meanings) l.ends.items
