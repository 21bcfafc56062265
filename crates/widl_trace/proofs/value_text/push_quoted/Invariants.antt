use Rattle.std.proofs.Common.{◌≡◌, ◌++◌, take}
use Rattle.std.specs.List.{flat_map}
use Rattle.widl_trace.specs.ValueTexts.{unit_text}
use Rattle.widl_trace.proofs.value_text.push_quoted.Given as goal

abbrev pub invariant-loop-unit : goal.invariant-loop-unit
invariant-loop-unit l = (l.draft.bytes.items ≡ l.initial.draft.bytes.items ++ flat_map unit_text (take l.unit-index l.text)) × (l.draft.most ≡ l.initial.draft.most)
