use Rattle.std.proofs.Common.{refl, [], ◌∷◌, true, false}
use Rattle.widl_idl.specs.declared.tree.members.AttributeKind.TheVariants as attribute_kind
use Rattle.widl_grammar.specs.declared.rule.Rule.TheVariants as rule
use Rattle.widl_grammar.specs.declared.terminal.Terminal.TheVariants as terminal
use Rattle.widl_syntax.proofs.Members.{as_attribute}
use Rattle.widl_syntax.proofs.Reading.{by_only, by_arm, by_default, and_then, took, took_at, other_than, and_other_than}
use Rattle.widl_syntax.proofs.build.reader.Reader.stringifier.Goals as goal

pub returns-in-Semicolon : goal.returns-in-Semicolon
returns-in-Semicolon c = by_only rule.Stringifier refl (and_then (took_at terminal.Stringifier c.take-at.ensures) (by_arm rule.StringifierRest terminal.Semicolon _ c.ahead.ensures c.in-Semicolon.is refl refl (took terminal.Semicolon c.take-semicolon.ensures)))

pub returns-in_ok-attribute-in-Readonly : goal.returns-in_ok-attribute-in-Readonly
returns-in_ok-attribute-in-Readonly c = as_attribute c.in_ok-attribute-in-Readonly.attribute (attribute_kind.Stringifier c.take-at.result) true c.in_ok-attribute-in-Readonly.ensures.kind c.in_ok-attribute-in-Readonly.ensures.readonly (by_only rule.Stringifier refl (and_then (took_at terminal.Stringifier c.take-at.ensures) (by_arm rule.StringifierRest terminal.Readonly _ c.ahead.ensures c.in-Readonly.is refl refl (and_then (took terminal.Readonly c.take-readonly.ensures) c.in_ok-attribute-in-Readonly.ensures.reads))))

pub returns-in_ok-attribute-in_default : goal.returns-in_ok-attribute-in_default
returns-in_ok-attribute-in_default c = as_attribute c.in_ok-attribute-in_default.attribute (attribute_kind.Stringifier c.take-at.result) false c.in_ok-attribute-in_default.ensures.kind c.in_ok-attribute-in_default.ensures.readonly (by_only rule.Stringifier refl (and_then (took_at terminal.Stringifier c.take-at.ensures) (by_default rule.StringifierRest (terminal.Semicolon ∷ terminal.Readonly ∷ []) 1 _ c.ahead.ensures refl refl
    (and_other_than terminal.Semicolon (terminal.Readonly ∷ []) _ c.in_default.not-Semicolon (other_than terminal.Readonly _ c.in_default.not-Readonly))
    c.in_ok-attribute-in_default.ensures.reads)))
