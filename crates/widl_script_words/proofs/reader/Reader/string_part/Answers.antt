use Rattle.widl_script_words.proofs.BuiltSteps.{string_named, stringifier_holds, by_operation}
use Rattle.widl_script_words.proofs.reader.Reader.string_part.Goals as goal

pub returns-then-is_ahead : goal.returns-then-is_ahead
returns-then-is_ahead c = by_operation _ _ _ _ _ _ _ c.operation.ensures (λ k read. string_named _ _ k _ _ _ c.requires c.in_ok-word.ensures (c.is_ahead.ensures.yes c.if-is_ahead.true) read)

pub returns : goal.returns
returns c = stringifier_holds _ _ _ _ c.requires c.in_ok-word.ensures (c.is_ahead.ensures.no c.if-is_ahead.false)
