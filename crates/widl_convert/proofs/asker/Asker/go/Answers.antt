use Rattle.widl_idl.specs.DefinitionTerms.{defs_term}
use Rattle.widl_steps.specs.AskTerms.{answer_term}
use Rattle.widl_convert.proofs.Resuming.{calm_at_ask, calm_at_end, ended, resumed}
use Rattle.widl_convert.proofs.asker.Asker.go.Goals as goal

pub returns-in-Waits-clause-goes : goal.returns-in-Waits-clause-goes
returns-in-Waits-clause-goes c =
    resumed (defs_term c.args.tables.now.defs) c.args.self.now c.wait.new.self (answer_term c.args.answer) c.in-Ok.first c.in-Waits.asking c.settle.new.frames c.wait.result c.replace-state.ensures.value c.in-Ok.ensures.leads c.in-Waits.ensures.0 c.in-Waits.asking.fits c.wait.ensures.state c.wait.ensures.frames c.wait.ensures.ask

pub returns-in-Waits-clause-quiet : goal.returns-in-Waits-clause-quiet
returns-in-Waits-clause-quiet c =
    calm_at_ask (defs_term c.args.tables.now.defs) c.args.self.now c.wait.new.self c.in-Ok.first c.in-Waits.asking c.settle.new.frames c.wait.result c.replace-state.ensures.value c.in-Ok.ensures.weight c.in-Waits.ensures.1 c.wait.ensures.state c.wait.ensures.frames c.wait.ensures.ask

pub returns-in-Ends-clause-goes : goal.returns-in-Ends-clause-goes
returns-in-Ends-clause-goes c =
    ended (defs_term c.args.tables.now.defs) c.args.self.now (record { alloc = c.args.self.now.alloc; state = c.replace-state.new.dest; frames = c.settle.new.frames }) (answer_term c.args.answer) c.in-Ok.first c.in-Ends.ending c.told.result c.replace-state.ensures.value c.in-Ok.ensures.leads c.in-Ends.ensures.0 c.told.ensures

pub returns-in-Ends-clause-quiet : goal.returns-in-Ends-clause-quiet
returns-in-Ends-clause-quiet c =
    calm_at_end (defs_term c.args.tables.now.defs) c.args.self.now _ c.in-Ok.first c.in-Ends.ending c.told.result c.replace-state.ensures.value c.in-Ok.ensures.weight c.in-Ends.ensures.1 c.told.ensures
