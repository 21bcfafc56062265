use Rattle.std.proofs.Common.{refl, [], ◌∷◌}
use Rattle.widl_grammar.specs.declared.rule.Rule.TheVariants as rule
use Rattle.widl_grammar.specs.declared.terminal.Terminal.TheVariants as terminal
use Rattle.widl_syntax.proofs.Members.{without_word}
use Rattle.widl_syntax.proofs.Reading.{by_arm, by_default, other_than, and_other_than, in_ok}
use Rattle.widl_syntax.proofs.build.reader.Reader.definition_kind.Goals as goal

pub returns-in-Callback : goal.returns-in-Callback
returns-in-Callback c = in_ok c.callback.result _ _ (λ kind f. by_arm rule.Definition terminal.Callback _ c.ahead.ensures c.in-Callback.is refl refl f) c.callback.ensures

pub returns-in-Interface : goal.returns-in-Interface
returns-in-Interface c = in_ok c.interface.result _ _ (λ kind f. by_arm rule.Definition terminal.Interface _ c.ahead.ensures c.in-Interface.is refl refl f) c.interface.ensures

pub returns-in_ok-namespace-in-Namespace : goal.returns-in_ok-namespace-in-Namespace
returns-in_ok-namespace-in-Namespace c = by_arm rule.Definition terminal.Namespace _ c.ahead.ensures c.in-Namespace.is refl refl (without_word terminal.Partial _ c.in_ok-namespace-in-Namespace.ensures.partial c.in_ok-namespace-in-Namespace.ensures.reads)

pub returns-in-Partial : goal.returns-in-Partial
returns-in-Partial c = in_ok c.partial_definition.result _ _ (λ kind f. by_arm rule.Definition terminal.Partial _ c.ahead.ensures c.in-Partial.is refl refl f) c.partial_definition.ensures

pub returns-in_ok-dictionary-in-Dictionary : goal.returns-in_ok-dictionary-in-Dictionary
returns-in_ok-dictionary-in-Dictionary c = by_arm rule.Definition terminal.Dictionary _ c.ahead.ensures c.in-Dictionary.is refl refl (without_word terminal.Partial _ c.in_ok-dictionary-in-Dictionary.ensures.partial c.in_ok-dictionary-in-Dictionary.ensures.reads)

pub returns-in_ok-enumeration-in-Enum : goal.returns-in_ok-enumeration-in-Enum
returns-in_ok-enumeration-in-Enum c = by_arm rule.Definition terminal.Enum _ c.ahead.ensures c.in-Enum.is refl refl c.in_ok-enumeration-in-Enum.ensures

pub returns-in_ok-typedef-in-Typedef : goal.returns-in_ok-typedef-in-Typedef
returns-in_ok-typedef-in-Typedef c = by_arm rule.Definition terminal.Typedef _ c.ahead.ensures c.in-Typedef.is refl refl c.in_ok-typedef-in-Typedef.ensures

pub returns-in_ok-includes-in_default : goal.returns-in_ok-includes-in_default
returns-in_ok-includes-in_default c = by_default rule.Definition (terminal.Callback ∷ terminal.Interface ∷ terminal.Namespace ∷ terminal.Partial ∷ terminal.Dictionary ∷ terminal.Enum ∷ terminal.Typedef ∷ []) 7 _ c.ahead.ensures refl refl
    (and_other_than terminal.Callback (terminal.Interface ∷ terminal.Namespace ∷ terminal.Partial ∷ terminal.Dictionary ∷ terminal.Enum ∷ terminal.Typedef ∷ []) _ c.in_default.not-Callback (and_other_than terminal.Interface (terminal.Namespace ∷ terminal.Partial ∷ terminal.Dictionary ∷ terminal.Enum ∷ terminal.Typedef ∷ []) _ c.in_default.not-Interface (and_other_than terminal.Namespace (terminal.Partial ∷ terminal.Dictionary ∷ terminal.Enum ∷ terminal.Typedef ∷ []) _ c.in_default.not-Namespace (and_other_than terminal.Partial (terminal.Dictionary ∷ terminal.Enum ∷ terminal.Typedef ∷ []) _ c.in_default.not-Partial (and_other_than terminal.Dictionary (terminal.Enum ∷ terminal.Typedef ∷ []) _ c.in_default.not-Dictionary (and_other_than terminal.Enum (terminal.Typedef ∷ []) _ c.in_default.not-Enum (other_than terminal.Typedef _ c.in_default.not-Typedef)))))))
    c.in_ok-includes-in_default.ensures
