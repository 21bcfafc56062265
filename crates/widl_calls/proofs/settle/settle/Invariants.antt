use Rattle.std.proofs.Common.{◌+◌}
use Rattle.widl_dialog.specs.Stack.{stack_load}
use Rattle.widl_idl.specs.DefinitionTerms.{defs_term}
use Rattle.widl_steps.specs.FoundSteps.{steps_over}
use Rattle.widl_calls.specs.Frames.{call_frame_load, call_weight}
use Rattle.widl_calls.specs.Stack.{CallFollows, call_moves_on}
use Rattle.widl_calls.proofs.settle.settle.Given as goal

abbrev pub invariant-loop-current : goal.invariant-loop-current
invariant-loop-current l =
    CallFollows (defs_term l.tables.defs) (steps_over l.tables l.script) (call_moves_on (defs_term l.fn.tables.defs) (steps_over l.fn.tables l.fn.script) l.fn.first l.fn.frames.items) (stack_load call_frame_load l.fn.frames.items + call_weight (defs_term l.fn.tables.defs) l.fn.first) l.current l.frames.items

abbrev pub decreases-loop-current : goal.decreases-loop-current
decreases-loop-current l = stack_load call_frame_load l.frames.items + call_weight (defs_term l.tables.defs) l.current
