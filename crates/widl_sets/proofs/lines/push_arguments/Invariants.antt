use Rattle.std.proofs.Common.{◌≡◌, ◌++◌, codes, take}
use Rattle.widl_idl.specs.DefinitionTerms.{defs_term}
use Rattle.widl_overload.specs.sets.Sets.{tuple_term}
use Rattle.widl_sets.specs.Lines.{argument_texts}
use Rattle.widl_spell.specs.Names.{separated}
use Rattle.widl_sets.proofs.lines.push_arguments.Given as goal

abbrev pub invariant-loop-place : goal.invariant-loop-place
invariant-loop-place l = l.text.items ≡ l.initial.text.items ++ separated (codes ", ") (argument_texts (defs_term l.defs) (take l.place (tuple_term l.tuple).types) (take l.place (tuple_term l.tuple).opts))
