use Rattle.widl_script_words.proofs.BuiltSteps.{get_named, getter_holds, by_operation}
use Rattle.widl_script_words.proofs.reader.Reader.get_part.Goals as goal

pub returns-then-is_ahead : goal.returns-then-is_ahead
returns-then-is_ahead c = by_operation _ _ _ _ _ _ _ c.operation.ensures (λ k read. get_named _ _ k _ _ _ c.requires c.in_ok-word.ensures (c.is_ahead.ensures.yes c.if-is_ahead.true) read)

pub returns : goal.returns
returns c = getter_holds _ _ _ _ _ _ c.requires c.in_ok-word.ensures (c.is_ahead.ensures.no c.if-is_ahead.false) c.in_ok-name.ensures
