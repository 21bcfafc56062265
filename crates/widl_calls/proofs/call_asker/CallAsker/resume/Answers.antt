use Rattle.widl_idl.specs.DefinitionTerms.{defs_term}
use Rattle.widl_steps.specs.AskTerms.{answer_term}
use Rattle.widl_steps.specs.FoundSteps.{steps_over}
use Rattle.widl_calls.proofs.CallResuming.{told}
use Rattle.widl_calls.proofs.call_asker.CallAsker.resume.Goals as goal

pub returns-clause-next : goal.returns-clause-next
returns-clause-next c =
    told (defs_term c.args.tables.now.defs) (steps_over c.args.tables.now c.args.script.now) c.args.self.now c.go.new.self (answer_term c.args.answer) c.go.result c.requires c.go.ensures.goes
