use Rattle.std.proofs.Common.{refl, [], ◌∷◌}
use Rattle.widl_grammar.specs.declared.rule.Rule.TheVariants as rule
use Rattle.widl_grammar.specs.declared.terminal.Terminal.TheVariants as terminal
use Rattle.widl_syntax.proofs.Reading.{by_arm, by_default, other_than, and_other_than, in_ok}
use Rattle.widl_syntax.proofs.build.reader.Reader.namespace_member.Goals as goal

pub returns-in_ok-constant-in-Const : goal.returns-in_ok-constant-in-Const
returns-in_ok-constant-in-Const c = by_arm rule.NamespaceMember terminal.Const _ c.ahead.ensures c.in-Const.is refl refl c.in_ok-constant-in-Const.ensures

pub returns-in-Readonly : goal.returns-in-Readonly
returns-in-Readonly c = in_ok c.readonly_attribute.result _ _ (λ kind f. by_arm rule.NamespaceMember terminal.Readonly _ c.ahead.ensures c.in-Readonly.is refl refl f) c.readonly_attribute.ensures

pub returns-in_default : goal.returns-in_default
returns-in_default c = in_ok c.regular_operation.result _ _ (λ kind f. by_default rule.NamespaceMember (terminal.Const ∷ terminal.Readonly ∷ []) 0 _ c.ahead.ensures refl refl
    (and_other_than terminal.Const (terminal.Readonly ∷ []) _ c.in_default.not-Const (other_than terminal.Readonly _ c.in_default.not-Readonly))
    f) c.regular_operation.ensures
