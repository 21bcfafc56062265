use Rattle.widl_predictive.proofs.Unique as unique
use Rattle.widl_predictive.proofs.machine.read_sentence.Goals as goal

pub returns-clause-fault : goal.returns-clause-fault
returns-clause-fault g c = unique.fault_of g.R.Rule.grammar c.args.start c.args.tokens.now _ c.run_machine.ensures.fault

pub returns-clause-complete : goal.returns-clause-complete
returns-clause-complete g c = unique.complete_of g.R.Rule.grammar c.args.start c.args.tokens.now _ c.run_machine.ensures.fault
