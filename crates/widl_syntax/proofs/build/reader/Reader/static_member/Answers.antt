use Rattle.std.proofs.Common.{refl, [], ◌∷◌, true, false}
use Rattle.widl_idl.specs.declared.tree.members.AttributeKind.TheVariants as attribute_kind
use Rattle.widl_idl.specs.declared.tree.operations.OperationKind.TheVariants as operation_kind
use Rattle.widl_grammar.specs.declared.rule.Rule.TheVariants as rule
use Rattle.widl_grammar.specs.declared.terminal.Terminal.TheVariants as terminal
use Rattle.widl_syntax.proofs.Members.{as_attribute, as_operation}
use Rattle.widl_syntax.proofs.Reading.{by_only, by_arm, by_default, and_then, took, other_than, and_other_than}
use Rattle.widl_syntax.proofs.build.reader.Reader.static_member.Goals as goal

pub returns-in_ok-attribute-in-Readonly : goal.returns-in_ok-attribute-in-Readonly
returns-in_ok-attribute-in-Readonly c = as_attribute c.in_ok-attribute-in-Readonly.attribute attribute_kind.Static true c.in_ok-attribute-in-Readonly.ensures.kind c.in_ok-attribute-in-Readonly.ensures.readonly (by_only rule.Static refl (and_then (took terminal.Static c.take-static.ensures) (by_arm rule.StaticRest terminal.Readonly _ c.ahead.ensures c.in-Readonly.is refl refl (and_then (took terminal.Readonly c.take-readonly.ensures) c.in_ok-attribute-in-Readonly.ensures.reads))))

pub returns-in_ok-attribute-in-Attribute : goal.returns-in_ok-attribute-in-Attribute
returns-in_ok-attribute-in-Attribute c = as_attribute c.in_ok-attribute-in-Attribute.attribute attribute_kind.Static false c.in_ok-attribute-in-Attribute.ensures.kind c.in_ok-attribute-in-Attribute.ensures.readonly (by_only rule.Static refl (and_then (took terminal.Static c.take-static.ensures) (by_arm rule.StaticRest terminal.Attribute _ c.ahead.ensures c.in-Attribute.is refl refl c.in_ok-attribute-in-Attribute.ensures.reads)))

pub returns-in_ok-operation-in_default : goal.returns-in_ok-operation-in_default
returns-in_ok-operation-in_default c = as_operation c.in_ok-operation-in_default.field-0 operation_kind.Static c.in_ok-operation-in_default.ensures.kind (by_only rule.Static refl (and_then (took terminal.Static c.take-static.ensures) (by_default rule.StaticRest (terminal.Readonly ∷ terminal.Attribute ∷ []) 2 _ c.ahead.ensures refl refl
    (and_other_than terminal.Readonly (terminal.Attribute ∷ []) _ c.in_default.not-Readonly (other_than terminal.Attribute _ c.in_default.not-Attribute))
    c.in_ok-operation-in_default.ensures.reads)))
