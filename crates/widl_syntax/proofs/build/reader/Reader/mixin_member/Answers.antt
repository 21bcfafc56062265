use Rattle.std.proofs.Common.{refl, [], ◌∷◌}
use Rattle.widl_grammar.specs.declared.rule.Rule.TheVariants as rule
use Rattle.widl_grammar.specs.declared.terminal.Terminal.TheVariants as terminal
use Rattle.widl_syntax.proofs.Reading.{by_arm, by_default, other_than, and_other_than, in_ok}
use Rattle.widl_syntax.proofs.build.reader.Reader.mixin_member.Goals as goal

pub returns-in_ok-constant-in-Const : goal.returns-in_ok-constant-in-Const
returns-in_ok-constant-in-Const c = by_arm rule.MixinMember terminal.Const _ c.ahead.ensures c.in-Const.is refl refl c.in_ok-constant-in-Const.ensures

pub returns-in-Stringifier : goal.returns-in-Stringifier
returns-in-Stringifier c = in_ok c.stringifier.result _ _ (λ kind f. by_arm rule.MixinMember terminal.Stringifier _ c.ahead.ensures c.in-Stringifier.is refl refl f) c.stringifier.ensures

pub returns-in-Readonly : goal.returns-in-Readonly
returns-in-Readonly c = in_ok c.readonly_attribute.result _ _ (λ kind f. by_arm rule.MixinMember terminal.Readonly _ c.ahead.ensures c.in-Readonly.is refl refl f) c.readonly_attribute.ensures

pub returns-in-Attribute : goal.returns-in-Attribute
returns-in-Attribute c = in_ok c.regular_attribute.result _ _ (λ kind f. by_arm rule.MixinMember terminal.Attribute _ c.ahead.ensures c.in-Attribute.is refl refl f) c.regular_attribute.ensures

pub returns-in_default : goal.returns-in_default
returns-in_default c = in_ok c.regular_operation.result _ _ (λ kind f. by_default rule.MixinMember (terminal.Const ∷ terminal.Stringifier ∷ terminal.Readonly ∷ terminal.Attribute ∷ []) 1 _ c.ahead.ensures refl refl
    (and_other_than terminal.Const (terminal.Stringifier ∷ terminal.Readonly ∷ terminal.Attribute ∷ []) _ c.in_default.not-Const (and_other_than terminal.Stringifier (terminal.Readonly ∷ terminal.Attribute ∷ []) _ c.in_default.not-Stringifier (and_other_than terminal.Readonly (terminal.Attribute ∷ []) _ c.in_default.not-Readonly (other_than terminal.Attribute _ c.in_default.not-Attribute))))
    f) c.regular_operation.ensures
