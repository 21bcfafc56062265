use Rattle.std.proofs.Common.{arith}
use Rattle.std.proofs.lemmas.Grind.{common_steps}
use Rattle.widl_idl.specs.DefinitionTerms.{defs_term}
use Rattle.widl_trace.proofs.UnfinishedTexts.{entries_front, front_parts, members_front, values_front}
use Rattle.widl_trace.proofs.idl_value_text.push_front.Goals as goal

pub returns-in_err-push : goal.returns-in_err-push
returns-in_err-push c =
    let front = front_parts (defs_term c.args.defs.now) c.args.begun.now c.requires in
    grind (arith, common_steps, front)

pub returns-in-Values : goal.returns-in-Values
returns-in-Values c =
    let front = values_front (defs_term c.args.defs.now) c.args.begun.now _ c.in-Values.is c.requires in
    grind (arith, common_steps, front)

pub returns-in-Entries : goal.returns-in-Entries
returns-in-Entries c =
    let front = entries_front (defs_term c.args.defs.now) c.args.begun.now _ c.in-Entries.is c.requires in
    grind (arith, common_steps, front)

pub returns-in-Members : goal.returns-in-Members
returns-in-Members c =
    let front = members_front (defs_term c.args.defs.now) c.args.begun.now _ c.in-Members.is c.requires in
    grind (arith, common_steps, front)
