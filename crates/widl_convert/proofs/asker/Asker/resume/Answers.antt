use Rattle.widl_idl.specs.DefinitionTerms.{defs_term}
use Rattle.widl_steps.specs.AskTerms.{answer_term}
use Rattle.widl_convert.proofs.Resuming.{told}
use Rattle.widl_convert.proofs.asker.Asker.resume.Goals as goal

pub returns-clause-next : goal.returns-clause-next
returns-clause-next c = told (defs_term c.args.tables.now.defs) c.args.self.now c.go.new.self (answer_term c.args.answer) c.go.result c.requires c.go.ensures.goes
