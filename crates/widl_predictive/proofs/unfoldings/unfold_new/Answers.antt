use Rattle.std.proofs.Common.{subst, IfOk}
use Rattle.widl_predictive.specs.declared.machine.Frame.TheVariants.{Open}
use Rattle.widl_predictive.specs.Machine.{stack_of, topped, Unfolds, EndsAt}
use Rattle.widl_predictive.proofs.Unfolding.{put_back}
use Rattle.widl_predictive.proofs.unfoldings.unfold_new.Goals as goal

pub returns-clause-unfolded : goal.returns-clause-unfolded
returns-clause-unfolded g c = subst (λ x. IfOk c.unfold.result (λ r. Unfolds g.R.Rule.grammar g.R.Rule.sets c.args.ahead x (topped r.top (stack_of c.unfold.new.stack.items)) r.deep × EndsAt g.R.Rule.grammar g.R.Rule.sets c.args.ahead r.top)) (put_back c.args.stack.now.items c.push.new.self.items (Open c.args.rule c.args.level) c.in_ok-push.ensures.items) c.unfold.ensures
