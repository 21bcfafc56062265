use Rattle.std.proofs.Common.{refl, [], ◌∷◌}
use Rattle.widl_grammar.specs.declared.rule.Rule.TheVariants as rule
use Rattle.widl_grammar.specs.declared.terminal.Terminal.TheVariants as terminal
use Rattle.widl_syntax.proofs.Reading.{by_row, by_rest, and_then, took, other_than}
use Rattle.widl_syntax.proofs.build.reader.Reader.callback.Goals as goal

pub returns-then-is_ahead : goal.returns-then-is_ahead
returns-then-is_ahead c = and_then (took terminal.Callback c.take-word.ensures) (by_row rule.CallbackRest terminal.Interface (c.is_ahead.ensures.yes c.if-is_ahead.true) refl refl c.in_ok-callback_interface.ensures)

pub returns : goal.returns
returns c = and_then (took terminal.Callback c.take-word.ensures) (by_rest rule.CallbackRest (terminal.Interface ∷ []) 0 refl refl (other_than terminal.Interface _ (c.is_ahead.ensures.no c.if-is_ahead.false)) c.in_ok-callback_function.ensures)
