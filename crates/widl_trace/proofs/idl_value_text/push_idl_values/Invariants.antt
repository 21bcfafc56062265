use Rattle.std.proofs.Common.{◌≡◌, ◌++◌, codes, map, take}
use Rattle.widl_idl.specs.DefinitionTerms.{defs_term}
use Rattle.widl_spell.specs.Names.{separated}
use Rattle.widl_value.specs.IdlTerms.{idl_terms}
use Rattle.widl_trace.specs.IdlValueTexts.{idl_value_text}
use Rattle.widl_trace.proofs.idl_value_text.push_idl_values.Given as goal

abbrev pub invariant-loop-place : goal.invariant-loop-place
invariant-loop-place l = (l.draft.bytes.items ≡ l.initial.draft.bytes.items ++ separated (codes ", ") (take l.place (map (idl_value_text (defs_term l.defs)) (idl_terms l.values)))) × (l.draft.most ≡ l.initial.draft.most)
