use Rattle.std.proofs.Common.{refl, [], ◌∷◌}
use Rattle.widl_grammar.specs.declared.rule.Rule.TheVariants as rule
use Rattle.widl_grammar.specs.declared.terminal.Terminal.TheVariants as terminal
use Rattle.widl_syntax.proofs.Members.{without_word}
use Rattle.widl_syntax.proofs.Reading.{by_row, by_rest, and_then, took, other_than}
use Rattle.widl_syntax.proofs.build.reader.Reader.interface.Goals as goal

pub returns-then-is_ahead : goal.returns-then-is_ahead
returns-then-is_ahead c = without_word terminal.Partial _ c.in_ok-mixin.ensures.partial (and_then (took terminal.Interface c.take-word.ensures) (by_row rule.InterfaceRest terminal.Mixin (c.is_ahead.ensures.yes c.if-is_ahead.true) refl refl c.in_ok-mixin.ensures.reads))

pub returns : goal.returns
returns c = without_word terminal.Partial _ c.in_ok-whole_interface.ensures.partial (and_then (took terminal.Interface c.take-word.ensures) (by_rest rule.InterfaceRest (terminal.Mixin ∷ []) 0 refl refl (other_than terminal.Mixin _ (c.is_ahead.ensures.no c.if-is_ahead.false)) c.in_ok-whole_interface.ensures.reads))
