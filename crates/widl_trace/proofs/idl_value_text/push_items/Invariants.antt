use Rattle.std.proofs.Common.{◌≡◌, ◌++◌, ◌-◌, ◌≤◌, length}
use Rattle.widl_idl.specs.DefinitionTerms.{defs_term}
use Rattle.widl_trace.specs.Unfinished.{labelled, left_text}
use Rattle.widl_trace.proofs.idl_value_text.push_items.Given as goal

abbrev pub invariant-loop-value : goal.invariant-loop-value
invariant-loop-value l =
    (l.draft.bytes.items ++ left_text (defs_term l.defs) l.begun ≡ l.initial.draft.bytes.items ++ left_text (defs_term l.defs) l.initial.begun)
    × (l.draft.most ≡ l.initial.draft.most) × (l.begun.contents ≡ l.initial.begun.contents)
    × (length l.initial.draft.bytes.items ≤ length l.draft.bytes.items)

abbrev pub decreases-loop-value : goal.decreases-loop-value
decreases-loop-value l = length (labelled (defs_term l.defs) l.begun.contents) - l.begun.place
