use Rattle.std.proofs.Common.{refl}
use Rattle.widl_idl.specs.DefinitionTerms.{defs_term}
use Rattle.widl_steps.specs.FoundSteps.{steps_over}
use Rattle.widl_calls.specs.declared.moves.CallMove.TheVariants.{Steps}
use Rattle.widl_calls.proofs.CallSuspending.{ended_for, step_less, stepped}
use Rattle.widl_calls.proofs.settle.enter.Goals as goal

pub returns-in-Gives-clause-follows : goal.returns-in-Gives-clause-follows
returns-in-Gives-clause-follows c =
    ended_for (defs_term c.args.tables.now.defs) (steps_over c.args.tables.now c.args.script.now) c.args.frame c.args.job c.in-Gives.ending _ c.args.frames.now.items c.returned.result c.in_ok-next.ensures.leads c.in_ok-next.ensures.weight c.in-Gives.is c.returned.ensures.dialog c.returned.ensures.weight

pub returns-in_ok-push-in_default : goal.returns-in_ok-push-in_default
returns-in_ok-push-in_default c = record {
  follows = λ d bound follows. stepped follows refl c.in_ok-push-in_default.ensures.items c.in_ok-next.ensures.leads c.in_ok-next.ensures.weight;
  less = step_less (defs_term c.args.tables.now.defs) c.args.frame c.args.job (Steps c.args.frame c.args.job) _ c.args.frames.now.items c.push.new.self.items refl c.in_ok-push-in_default.ensures.items c.in_ok-next.ensures.weight;
}
