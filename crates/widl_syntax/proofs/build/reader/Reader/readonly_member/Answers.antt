use Rattle.std.proofs.Common.{refl, [], ◌∷◌, true}
use Rattle.widl_idl.specs.declared.tree.members.AttributeKind.TheVariants as attribute_kind
use Rattle.widl_grammar.specs.declared.rule.Rule.TheVariants as rule
use Rattle.widl_grammar.specs.declared.terminal.Terminal.TheVariants as terminal
use Rattle.widl_syntax.proofs.Members.{with_word, as_attribute}
use Rattle.widl_syntax.proofs.Reading.{by_arm, by_default, and_then, took, other_than, and_other_than}
use Rattle.widl_syntax.proofs.build.reader.Reader.readonly_member.Goals as goal

pub returns-in_ok-maplike-in-Maplike : goal.returns-in_ok-maplike-in-Maplike
returns-in_ok-maplike-in-Maplike c = with_word terminal.Readonly _ c.in_ok-maplike-in-Maplike.ensures.readonly (and_then (took terminal.Readonly c.take-readonly.ensures) (by_arm rule.ReadonlyRest terminal.Maplike _ c.ahead.ensures c.in-Maplike.is refl refl c.in_ok-maplike-in-Maplike.ensures.reads))

pub returns-in_ok-setlike-in-Setlike : goal.returns-in_ok-setlike-in-Setlike
returns-in_ok-setlike-in-Setlike c = with_word terminal.Readonly _ c.in_ok-setlike-in-Setlike.ensures.readonly (and_then (took terminal.Readonly c.take-readonly.ensures) (by_arm rule.ReadonlyRest terminal.Setlike _ c.ahead.ensures c.in-Setlike.is refl refl c.in_ok-setlike-in-Setlike.ensures.reads))

pub returns-in_ok-attribute-in_default : goal.returns-in_ok-attribute-in_default
returns-in_ok-attribute-in_default c = as_attribute c.in_ok-attribute-in_default.attribute attribute_kind.Regular true c.in_ok-attribute-in_default.ensures.kind c.in_ok-attribute-in_default.ensures.readonly (and_then (took terminal.Readonly c.take-readonly.ensures) (by_default rule.ReadonlyRest (terminal.Maplike ∷ terminal.Setlike ∷ []) 0 _ c.ahead.ensures refl refl
    (and_other_than terminal.Maplike (terminal.Setlike ∷ []) _ c.in_default.not-Maplike (other_than terminal.Setlike _ c.in_default.not-Setlike))
    c.in_ok-attribute-in_default.ensures.reads))
