use Rattle.widl_idl.specs.DefinitionTerms.{defs_term}
use Rattle.widl_steps.specs.AskTerms.{answer_term}
use Rattle.widl_convert.specs.Stack.{quiet}
use Rattle.widl_calls.proofs.InnerConversions.{awaits_kind, under_free}
use Rattle.widl_calls.proofs.conversions.goes_on.Goals as goal

pub resume-requires : goal.resume-requires
resume-requires c = awaits_kind c.args.inside.asker.value.state (answer_term c.args.answer) c.args.inside.waits c.requires

pub returns-clause-weight : goal.returns-clause-weight
returns-clause-weight c =
    under_free (defs_term c.args.tables.now.defs) c.args.inside.asker.value c.resume.result (quiet (defs_term c.args.tables.now.defs) c.args.inside.asker.value) c.resume.ensures.weight
