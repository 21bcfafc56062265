use Rattle.std.proofs.Common.{ap}
use Rattle.widl_script_tree.specs.declared.function.Function.{Function}
use Rattle.widl_engine.proofs.ContextLaws.{enter_performed}
use Rattle.widl_engine.proofs.entering.enter.Goals as goal

pub returns : goal.returns
returns c p script =
    enter_performed p c.args.script.now c.args.store.now c.args.place.now c.enter_context.new.place c.args.number c.args.this c.args.args c.in_ok-inner.inner c.function.result.now.body script c.in_ok-inner.ensures (c.in_ok-enter_context.ensures c.args.script.now) (ap (λ (f : Function). f.body) c.function.ensures.function)
