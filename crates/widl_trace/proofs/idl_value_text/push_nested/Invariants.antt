use Rattle.std.proofs.Common.{◌≡◌, ◌++◌, length}
use Rattle.widl_idl.specs.DefinitionTerms.{defs_term}
use Rattle.widl_trace.specs.Unfinished.{all_left, left_text}
use Rattle.widl_trace.proofs.idl_value_text.push_nested.Given as goal

abbrev pub invariant-loop-inner : goal.invariant-loop-inner
invariant-loop-inner l =
    (l.draft.bytes.items ++ (left_text (defs_term l.defs) l.inmost ++ all_left (defs_term l.defs) l.outer.items)
    ≡ l.initial.draft.bytes.items ++ (left_text (defs_term l.defs) l.fn.begun ++ all_left (defs_term l.defs) l.initial.outer.items))
    × (l.draft.most ≡ l.initial.draft.most)

abbrev pub decreases-loop-inner : goal.decreases-loop-inner
decreases-loop-inner l = length (left_text (defs_term l.defs) l.inmost ++ all_left (defs_term l.defs) l.outer.items)
