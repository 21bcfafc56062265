use Rattle.std.proofs.Common.{◌≡◌, ◌++◌, take}
use Rattle.widl_trace.specs.CalleeTexts.{name_text}
use Rattle.widl_trace.proofs.callee_text.push_name.Given as goal

abbrev pub invariant-loop-unit : goal.invariant-loop-unit
invariant-loop-unit l = (l.draft.bytes.items ≡ l.initial.draft.bytes.items ++ name_text (take l.unit-index l.unit-items)) × (l.draft.most ≡ l.initial.draft.most)
