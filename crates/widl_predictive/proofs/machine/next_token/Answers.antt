use Rattle.widl_predictive.specs.Machine.{stack_of}
use Rattle.widl_predictive.proofs.Taking.{takes_wanted, takes_none}
use Rattle.widl_predictive.proofs.machine.next_token.Goals as goal

pub returns-in-Wanted : goal.returns-in-Wanted
returns-in-Wanted g c = takes_wanted g.R.Rule.grammar g.R.Rule.sets c.args.ahead c.in_ok-unfolded.unfolded.deep (stack_of c.args.stack.now.items) (stack_of c.unfold.new.stack.items) c.in_ok-unfolded.unfolded.top c.in-Wanted.field-0 c.in_ok-unfolded.ensures.0 c.in-Wanted.is

pub returns-in_default : goal.returns-in_default
returns-in_default g c = takes_none g.R.Rule.grammar g.R.Rule.sets c.args.ahead c.in_ok-unfolded.unfolded.deep (stack_of c.args.stack.now.items) (stack_of c.unfold.new.stack.items) c.in_ok-unfolded.unfolded.top c.in_ok-unfolded.ensures.0 c.in_ok-unfolded.ensures.1 c.in_default.not-Wanted
