use Rattle.std.proofs.Common.{map, ap, sym, ◌∙◌}
use Rattle.widl_value.specs.IdlTerms.{entry_term}
use Rattle.widl_convert.proofs.RecordEntries.{entry_set}
use Rattle.widl_convert.proofs.entry_map.insert_in.Goals as goal

pub returns-in-Ok : goal.returns-in-Ok
returns-in-Ok c = ap (map entry_term) c.in-Ok.ensures.entries ∙ sym (entry_set c.args.key c.args.value c.args.entries.now.entries)
