use Rattle.std.proofs.Common.{◌+◌}
use Rattle.widl_dialog.specs.Stack.{stack_load}
use Rattle.widl_idl.specs.DefinitionTerms.{defs_term}
use Rattle.widl_convert.specs.Loads.{frame_load, weight}
use Rattle.widl_convert.specs.Stack.{Follows, moves_on}
use Rattle.widl_convert.proofs.settle.settle.Given as goal

abbrev pub invariant-loop-current : goal.invariant-loop-current
invariant-loop-current l =
    Follows (defs_term l.tables.defs) (moves_on (defs_term l.fn.tables.defs) l.fn.first l.fn.frames) (stack_load (frame_load (defs_term l.fn.tables.defs)) l.fn.frames + weight (defs_term l.fn.tables.defs) l.fn.first) l.current l.frames

abbrev pub decreases-loop-current : goal.decreases-loop-current
decreases-loop-current l = stack_load (frame_load (defs_term l.tables.defs)) l.frames + weight (defs_term l.tables.defs) l.current
