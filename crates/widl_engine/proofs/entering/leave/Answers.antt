use Rattle.widl_engine.proofs.ContextLaws.{left_performed}
use Rattle.widl_engine.proofs.entering.leave.Goals as goal

pub returns : goal.returns
returns c p s = left_performed p s c.args.store.now c.args.place.now c.leave_context.new.place c.args.completion c.completes.result (c.leave_context.ensures s) (c.completes.ensures p s)
