use Rattle.std.proofs.Common.{sym, ◌∙◌}
use Rattle.widl_predictive.specs.Machine.{stack_of}
use Rattle.widl_predictive.proofs.Steps.{popped}
use Rattle.widl_predictive.proofs.machine.take_top.Goals as goal

pub returns-in-Some : goal.returns-in-Some
returns-in-Some g c = c.top_of.ensures (stack_of c.pop.new.self.items) ∙ sym (popped c.args.stack.now.items c.pop.new.self.items c.in-Some.frame c.in-Some.ensures.items)
