use Rattle.widl_script_words.proofs.BuiltSteps.{operation_holds, by_operation}
use Rattle.widl_script_words.proofs.reader.Reader.plain_part.Goals as goal

pub returns : goal.returns
returns c = by_operation _ _ _ _ _ _ _ c.operation.ensures (λ k read. operation_holds _ _ k _ _ _ c.requires.no_static c.requires.no_get c.requires.no_set c.requires.no_string (c.is_ahead.ensures.no c.if-is_ahead.false) c.in_ok-name.ensures read)
