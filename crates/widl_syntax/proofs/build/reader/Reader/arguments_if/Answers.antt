use Rattle.std.proofs.Common.{refl, [], ◌∷◌}
use Rattle.widl_grammar.specs.declared.rule.Rule.TheVariants as rule
use Rattle.widl_grammar.specs.declared.terminal.Terminal.TheVariants as terminal
use Rattle.widl_syntax.proofs.Reading.{by_row, by_rest, nothing, other_than}
use Rattle.widl_syntax.proofs.build.reader.Reader.arguments_if.Goals as goal

pub returns-then-is_ahead : goal.returns-then-is_ahead
returns-then-is_ahead c = by_row rule.AsyncArguments terminal.OpenParen (c.is_ahead.ensures.yes c.if-is_ahead.true) refl refl c.in_ok-arguments.ensures

pub returns : goal.returns
returns c = by_rest rule.AsyncArguments (terminal.OpenParen ∷ []) 1 refl refl (other_than terminal.OpenParen _ (c.is_ahead.ensures.no c.if-is_ahead.false)) nothing
