use Rattle.std.proofs.Common.{refl, [], ◌∷◌}
use Rattle.widl_grammar.specs.declared.rule.Rule.TheVariants as rule
use Rattle.widl_grammar.specs.declared.terminal.Terminal.TheVariants as terminal
use Rattle.widl_syntax.proofs.Members.{with_word}
use Rattle.widl_syntax.proofs.Reading.{by_arm, by_default, and_then, took, other_than, and_other_than, in_ok}
use Rattle.widl_syntax.proofs.build.reader.Reader.partial_definition.Goals as goal

pub returns-in-Interface : goal.returns-in-Interface
returns-in-Interface c = in_ok c.partial_interface.result _ _ (λ kind f. with_word terminal.Partial _ f.0 (and_then (took terminal.Partial c.take-partial.ensures) (by_arm rule.PartialRest terminal.Interface _ c.ahead.ensures c.in-Interface.is refl refl f.1))) c.partial_interface.ensures

pub returns-in_ok-namespace-in-Namespace : goal.returns-in_ok-namespace-in-Namespace
returns-in_ok-namespace-in-Namespace c = with_word terminal.Partial _ c.in_ok-namespace-in-Namespace.ensures.partial (and_then (took terminal.Partial c.take-partial.ensures) (by_arm rule.PartialRest terminal.Namespace _ c.ahead.ensures c.in-Namespace.is refl refl c.in_ok-namespace-in-Namespace.ensures.reads))

pub returns-in_ok-partial_dictionary-in_default : goal.returns-in_ok-partial_dictionary-in_default
returns-in_ok-partial_dictionary-in_default c = with_word terminal.Partial _ c.in_ok-partial_dictionary-in_default.ensures.partial (and_then (took terminal.Partial c.take-partial.ensures) (by_default rule.PartialRest (terminal.Interface ∷ terminal.Namespace ∷ []) 2 _ c.ahead.ensures refl refl
    (and_other_than terminal.Interface (terminal.Namespace ∷ []) _ c.in_default.not-Interface (other_than terminal.Namespace _ c.in_default.not-Namespace))
    c.in_ok-partial_dictionary-in_default.ensures.reads))
