use Rattle.std.proofs.Common.{subst}
use Rattle.widl_idl.specs.DefinitionTerms.{defs_term}
use Rattle.widl_lines.specs.declared.script_place.ScriptFault.{ScriptFault}
use Rattle.widl_script.specs.Outcomes.{IsRefusal}
use Rattle.widl_top.proofs.Answered.{break_answered, run_answered}
use Rattle.widl_top.proofs.running.run_script.Goals as goal

pub read_script-requires-clause-rules : goal.read_script-requires-clause-rules
read_script-requires-clause-rules g c = c.requires.served.0

pub returns-in-Ok : goal.returns-in-Ok
returns-in-Ok g c = run_answered (defs_term c.args.accepted.defs) c.args.text.now c.args.budget _ _ _ _ _ (c.run_read.ensures c.args.text.now c.in-Ok.ensures.ok)

pub returns-in-Err-Refused : goal.returns-in-Err-Refused
returns-in-Err-Refused g c =
    break_answered (defs_term c.args.accepted.defs) c.args.text.now c.args.budget c.in-Err-Refused.place _ _ _ _ _
    (subst (λ (fault : ScriptFault). IsRefusal c.args.text.now (defs_term c.args.accepted.defs) fault) c.in-Err-Refused.field-0-is c.in-Err-Refused.ensures.refused) c.answer_place.ensures
