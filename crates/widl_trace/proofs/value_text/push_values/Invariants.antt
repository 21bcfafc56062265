use Rattle.std.proofs.Common.{◌≡◌, ◌++◌, codes, map, take}
use Rattle.widl_spell.specs.Names.{separated}
use Rattle.widl_trace.specs.ValueTexts.{value_text}
use Rattle.widl_trace.proofs.value_text.push_values.Given as goal

abbrev pub invariant-loop-place : goal.invariant-loop-place
invariant-loop-place l = (l.draft.bytes.items ≡ l.initial.draft.bytes.items ++ separated (codes ", ") (take l.place (map value_text l.values))) × (l.draft.most ≡ l.initial.draft.most)
