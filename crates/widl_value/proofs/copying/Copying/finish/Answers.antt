use Rattle.widl_value.proofs.CopiedParts.{finished_entries, finished_members, finished_values}
use Rattle.widl_value.proofs.copying.Copying.finish.Goals as goal

pub returns-in-Values : goal.returns-in-Values
returns-in-Values c = finished_values c.args.self c.in-Values.field-0 c.in-Values.copy c.in-Values.is c.requires.front c.requires.whole

pub returns-in-Entries : goal.returns-in-Entries
returns-in-Entries c = finished_entries c.args.self c.in-Entries.field-0 c.in-Entries.copy c.in-Entries.is c.requires.front c.requires.whole

pub returns-in-Members : goal.returns-in-Members
returns-in-Members c = finished_members c.args.self c.in-Members.of c.in-Members.field-1 c.in-Members.copy c.in-Members.is c.requires.front c.requires.whole
