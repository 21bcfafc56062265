use Rattle.std.proofs.Common.{refl, [], ◌∷◌, inl, inr}
use Rattle.widl_grammar.specs.declared.rule.Rule.TheVariants as rule
use Rattle.widl_grammar.specs.declared.terminal.Terminal.TheVariants as terminal
use Rattle.widl_syntax.proofs.Members.{without_word}
use Rattle.widl_syntax.proofs.Reading.{by_arm, by_default, other_than, and_other_than, in_ok}
use Rattle.widl_syntax.proofs.build.reader.Reader.partial_interface_member.Goals as goal

pub returns-in_ok-constant-in-Const : goal.returns-in_ok-constant-in-Const
returns-in_ok-constant-in-Const c = by_arm rule.Member terminal.Const _ c.ahead.ensures c.in-Const.is refl refl c.in_ok-constant-in-Const.ensures

pub returns-in-Stringifier : goal.returns-in-Stringifier
returns-in-Stringifier c = in_ok c.stringifier.result _ _ (λ kind f. by_arm rule.Member terminal.Stringifier _ c.ahead.ensures c.in-Stringifier.is refl refl f) c.stringifier.ensures

pub returns-in-Static : goal.returns-in-Static
returns-in-Static c = in_ok c.static_member.result _ _ (λ kind f. by_arm rule.Member terminal.Static _ c.ahead.ensures c.in-Static.is refl refl f) c.static_member.ensures

pub returns-in_ok-iterable-in-Iterable : goal.returns-in_ok-iterable-in-Iterable
returns-in_ok-iterable-in-Iterable c = by_arm rule.Member terminal.Iterable _ c.ahead.ensures c.in-Iterable.is refl refl c.in_ok-iterable-in-Iterable.ensures

pub returns-in-Readonly : goal.returns-in-Readonly
returns-in-Readonly c = in_ok c.readonly_member.result _ _ (λ kind f. by_arm rule.Member terminal.Readonly _ c.ahead.ensures c.in-Readonly.is refl refl f) c.readonly_member.ensures

pub returns-in-Attribute : goal.returns-in-Attribute
returns-in-Attribute c = in_ok c.regular_attribute.result _ _ (λ kind f. by_arm rule.Member terminal.Attribute _ c.ahead.ensures c.in-Attribute.is refl refl f) c.regular_attribute.ensures

pub returns-in_ok-maplike-in-Maplike : goal.returns-in_ok-maplike-in-Maplike
returns-in_ok-maplike-in-Maplike c = by_arm rule.Member terminal.Maplike _ c.ahead.ensures c.in-Maplike.is refl refl (without_word terminal.Readonly _ c.in_ok-maplike-in-Maplike.ensures.readonly c.in_ok-maplike-in-Maplike.ensures.reads)

pub returns-in_ok-setlike-in-Setlike : goal.returns-in_ok-setlike-in-Setlike
returns-in_ok-setlike-in-Setlike c = by_arm rule.Member terminal.Setlike _ c.ahead.ensures c.in-Setlike.is refl refl (without_word terminal.Readonly _ c.in_ok-setlike-in-Setlike.ensures.readonly c.in_ok-setlike-in-Setlike.ensures.reads)

pub returns-in-Inherit : goal.returns-in-Inherit
returns-in-Inherit c = in_ok c.inherited_attribute.result _ _ (λ kind f. by_arm rule.Member terminal.Inherit _ c.ahead.ensures c.in-Inherit.is refl refl f) c.inherited_attribute.ensures

pub returns-in-Getter : goal.returns-in-Getter
returns-in-Getter c = in_ok c.special_operation.result _ _ (λ kind f. by_arm rule.Member terminal.Getter _ c.ahead.ensures c.in-Getter.is refl refl f) c.special_operation.ensures

pub returns-in-Setter : goal.returns-in-Setter
returns-in-Setter c = in_ok c.special_operation-in-Setter.result _ _ (λ kind f. by_arm rule.Member terminal.Setter _ c.ahead.ensures c.in-Setter.is refl refl f) c.special_operation-in-Setter.ensures

pub returns-in-Deleter : goal.returns-in-Deleter
returns-in-Deleter c = in_ok c.special_operation-in-Deleter.result _ _ (λ kind f. by_arm rule.Member terminal.Deleter _ c.ahead.ensures c.in-Deleter.is refl refl f) c.special_operation-in-Deleter.ensures

pub returns-in_default : goal.returns-in_default
returns-in_default c = in_ok c.regular_operation.result _ _ (λ kind f. by_default rule.Member (terminal.Const ∷ terminal.Stringifier ∷ terminal.Static ∷ terminal.Iterable ∷ terminal.Async ∷ terminal.AsyncIterable ∷ terminal.Readonly ∷ terminal.Attribute ∷ terminal.Maplike ∷ terminal.Setlike ∷ terminal.Inherit ∷ terminal.Getter ∷ terminal.Setter ∷ terminal.Deleter ∷ []) 1 _ c.ahead.ensures refl refl
    (and_other_than terminal.Const (terminal.Stringifier ∷ terminal.Static ∷ terminal.Iterable ∷ terminal.Async ∷ terminal.AsyncIterable ∷ terminal.Readonly ∷ terminal.Attribute ∷ terminal.Maplike ∷ terminal.Setlike ∷ terminal.Inherit ∷ terminal.Getter ∷ terminal.Setter ∷ terminal.Deleter ∷ []) _ c.in_default.not-Const (and_other_than terminal.Stringifier (terminal.Static ∷ terminal.Iterable ∷ terminal.Async ∷ terminal.AsyncIterable ∷ terminal.Readonly ∷ terminal.Attribute ∷ terminal.Maplike ∷ terminal.Setlike ∷ terminal.Inherit ∷ terminal.Getter ∷ terminal.Setter ∷ terminal.Deleter ∷ []) _ c.in_default.not-Stringifier (and_other_than terminal.Static (terminal.Iterable ∷ terminal.Async ∷ terminal.AsyncIterable ∷ terminal.Readonly ∷ terminal.Attribute ∷ terminal.Maplike ∷ terminal.Setlike ∷ terminal.Inherit ∷ terminal.Getter ∷ terminal.Setter ∷ terminal.Deleter ∷ []) _ c.in_default.not-Static (and_other_than terminal.Iterable (terminal.Async ∷ terminal.AsyncIterable ∷ terminal.Readonly ∷ terminal.Attribute ∷ terminal.Maplike ∷ terminal.Setlike ∷ terminal.Inherit ∷ terminal.Getter ∷ terminal.Setter ∷ terminal.Deleter ∷ []) _ c.in_default.not-Iterable (and_other_than terminal.Async (terminal.AsyncIterable ∷ terminal.Readonly ∷ terminal.Attribute ∷ terminal.Maplike ∷ terminal.Setlike ∷ terminal.Inherit ∷ terminal.Getter ∷ terminal.Setter ∷ terminal.Deleter ∷ []) _ c.in_default.not-Async (and_other_than terminal.AsyncIterable (terminal.Readonly ∷ terminal.Attribute ∷ terminal.Maplike ∷ terminal.Setlike ∷ terminal.Inherit ∷ terminal.Getter ∷ terminal.Setter ∷ terminal.Deleter ∷ []) _ c.in_default.not-AsyncIterable (and_other_than terminal.Readonly (terminal.Attribute ∷ terminal.Maplike ∷ terminal.Setlike ∷ terminal.Inherit ∷ terminal.Getter ∷ terminal.Setter ∷ terminal.Deleter ∷ []) _ c.in_default.not-Readonly (and_other_than terminal.Attribute (terminal.Maplike ∷ terminal.Setlike ∷ terminal.Inherit ∷ terminal.Getter ∷ terminal.Setter ∷ terminal.Deleter ∷ []) _ c.in_default.not-Attribute (and_other_than terminal.Maplike (terminal.Setlike ∷ terminal.Inherit ∷ terminal.Getter ∷ terminal.Setter ∷ terminal.Deleter ∷ []) _ c.in_default.not-Maplike (and_other_than terminal.Setlike (terminal.Inherit ∷ terminal.Getter ∷ terminal.Setter ∷ terminal.Deleter ∷ []) _ c.in_default.not-Setlike (and_other_than terminal.Inherit (terminal.Getter ∷ terminal.Setter ∷ terminal.Deleter ∷ []) _ c.in_default.not-Inherit (and_other_than terminal.Getter (terminal.Setter ∷ terminal.Deleter ∷ []) _ c.in_default.not-Getter (and_other_than terminal.Setter (terminal.Deleter ∷ []) _ c.in_default.not-Setter (other_than terminal.Deleter _ c.in_default.not-Deleter))))))))))))))
    f) c.regular_operation.ensures

pub returns-in_ok-async_iterable-in-Async : goal.returns-in_ok-async_iterable-in-Async
returns-in_ok-async_iterable-in-Async c = elim c.in-Async.is [ inl e ↦ by_arm rule.Member terminal.Async _ c.ahead.ensures e refl refl c.in_ok-async_iterable-in-Async.ensures | inr e ↦ by_arm rule.Member terminal.AsyncIterable _ c.ahead.ensures e refl refl c.in_ok-async_iterable-in-Async.ensures ]
