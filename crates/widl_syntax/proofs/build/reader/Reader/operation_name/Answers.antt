use Rattle.std.proofs.Common.{refl, [], ◌∷◌}
use Rattle.widl_grammar.specs.declared.rule.Rule.TheVariants as rule
use Rattle.widl_grammar.specs.declared.terminal.Terminal.TheVariants as terminal
use Rattle.widl_syntax.proofs.Reading.{by_row, nothing, other_than}
use Rattle.widl_syntax.proofs.Words.{by_word}
use Rattle.widl_syntax.proofs.build.reader.Reader.operation_name.Goals as goal

pub returns-then-is_ahead : goal.returns-then-is_ahead
returns-then-is_ahead c = by_row rule.OperationName terminal.OpenParen (c.is_ahead.ensures.yes c.if-is_ahead.true) refl refl nothing

pub returns : goal.returns
returns c = by_word rule.OperationName (terminal.OpenParen ∷ []) refl (other_than terminal.OpenParen _ (c.is_ahead.ensures.no c.if-is_ahead.false)) c.in_ok-name.ensures
