use Rattle.std.proofs.Common.{◌+◌, ◌<◌, subst, sym}
use Rattle.widl_dialog.specs.Stack.{stack_load}
use Rattle.widl_idl.specs.DefinitionTerms.{defs_term}
use Rattle.widl_calls.specs.declared.moves.CallMove.{CallMove}
use Rattle.widl_calls.specs.Frames.{call_frame_load, call_weight}
use Rattle.widl_calls.proofs.CallSuspending.{at_move, gave, give_less, went}
use Rattle.widl_calls.proofs.settle.settle.Goals as goal

pub returns-in-Asks : goal.returns-in-Asks
returns-in-Asks c = let known = at_move c.loop-current.invariant c.in-Asks.is in (known.place, known.less)

pub loop-current-smaller-in-Ok : goal.loop-current-smaller-in-Ok
loop-current-smaller-in-Ok c =
    give_less (defs_term c.args.tables.now.defs) c.in-Some.frame c.in-Gives.ending c.loop-current.current c.in-Ok.next c.loop-current.frames.items c.pop.new.frames.items c.in-Gives.is c.in-Some.ensures.some c.in-Ok.ensures.weight

pub loop-current-preserved-in-Ok : goal.loop-current-preserved-in-Ok
loop-current-preserved-in-Ok c = gave c.in-Some.frame c.loop-current.invariant c.in-Gives.is c.in-Some.ensures.some c.in-Ok.ensures.dialog c.in-Ok.ensures.weight

pub loop-current-smaller-in-Ok-enter : goal.loop-current-smaller-in-Ok-enter
loop-current-smaller-in-Ok-enter c =
    let list = defs_term c.args.tables.now.defs in
    subst (λ (m : CallMove). stack_load call_frame_load c.enter.new.frames.items + call_weight list c.in-Ok-enter.next < stack_load call_frame_load c.loop-current.frames.items + call_weight list m) (sym c.in-Steps.is) c.in-Ok-enter.ensures.less

pub loop-current-preserved-in-Ok-enter : goal.loop-current-preserved-in-Ok-enter
loop-current-preserved-in-Ok-enter c = c.in-Ok-enter.ensures.follows _ _ (at_move c.loop-current.invariant c.in-Steps.is)

pub loop-current-preserved : goal.loop-current-preserved
loop-current-preserved c = went c.loop-current.invariant c.in-Goes.is c.in-Ok-begin.ensures.leads c.in-Ok-begin.ensures.weight
