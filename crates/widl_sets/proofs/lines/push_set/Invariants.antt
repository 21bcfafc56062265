use Rattle.std.proofs.Common.{◌≡◌, ◌++◌, drop}
use Rattle.widl_idl.specs.DefinitionTerms.{defs_term}
use Rattle.widl_overload.specs.sets.Sets.{tuples_in}
use Rattle.widl_sets.specs.Lines.{lines_from}
use Rattle.widl_sets.proofs.lines.push_set.Given as goal

abbrev pub invariant-loop-place : goal.invariant-loop-place
invariant-loop-place l = l.text.items ++ lines_from (defs_term l.defs) l.callee (tuples_in l.set) (drop l.place (tuples_in l.set)) ≡ l.initial.text.items ++ lines_from (defs_term l.defs) l.callee (tuples_in l.set) (tuples_in l.set)
