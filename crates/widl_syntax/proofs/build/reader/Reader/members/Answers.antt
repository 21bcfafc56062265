use Rattle.std.proofs.Common.{◌≡◌, ◌++◌, List, [], ◌∷◌, None, false, refl, arith}
use Rattle.widl_lex.specs.Tokens.{Lexeme}
use Rattle.widl_predictive.specs.Lookahead.{choice}
use Rattle.widl_grammar.specs.declared.rule.Rule.TheVariants as rule
use Rattle.widl_grammar.specs.declared.terminal.Terminal.TheVariants as terminal
use Rattle.widl_grammar.specs.Rows.{grammar}
use Rattle.widl_grammar.specs.Tables.{sets}
use Rattle.widl_syntax.specs.declared.build.members.MemberList.{MemberList}
use Rattle.widl_syntax.specs.declared.build.members.MemberList.TheVariants.{Interface, PartialInterface, Mixin, Namespace, CallbackInterface}
use Rattle.widl_syntax.specs.MemberLists.{members_rule, member_rule}
use Rattle.widl_syntax.specs.Reading.{Reads, part, terminal_ahead}
use Rattle.widl_syntax.proofs.Reading.{by_row, nothing, other_than, is_among}
use Rattle.widl_syntax.proofs.Lists.{Repeats, goes_on, goes_over, goes_used_up, repeats_after}
use Rattle.widl_syntax.proofs.Tokens.{member_has_token}
use Rattle.widl_syntax.proofs.build.reader.Reader.members.Goals as goal
use Rattle.widl_syntax.proofs.build.reader.Reader.members.Goals.{else-loop-test, then-loop-test+then-is_ahead}

-- the rows of each list
one_more : (list : MemberList) {now : List Lexeme} → is_among (terminal.CloseBrace ∷ []) (terminal_ahead now) ≡ false → Repeats (members_rule list) (part rule.ExtendedAttributeList ++ part (member_rule list)) now
one_more Interface other = repeats_after rule.InterfaceMembers (terminal.CloseBrace ∷ []) 0 refl refl refl other
one_more PartialInterface other = repeats_after rule.PartialMembers (terminal.CloseBrace ∷ []) 0 refl refl refl other
one_more Mixin other = repeats_after rule.MixinMembers (terminal.CloseBrace ∷ []) 0 refl refl refl other
one_more Namespace other = repeats_after rule.NamespaceMembers (terminal.CloseBrace ∷ []) 0 refl refl refl other
one_more CallbackInterface other = repeats_after rule.CallbackMembers (terminal.CloseBrace ∷ []) 0 refl refl refl other

no_more : (list : MemberList) {now : List Lexeme} → terminal_ahead now ≡ terminal.CloseBrace → Reads (part (members_rule list)) [] now now
no_more Interface brace = by_row rule.InterfaceMembers terminal.CloseBrace brace refl refl nothing
no_more PartialInterface brace = by_row rule.PartialMembers terminal.CloseBrace brace refl refl nothing
no_more Mixin brace = by_row rule.MixinMembers terminal.CloseBrace brace refl refl nothing
no_more Namespace brace = by_row rule.NamespaceMembers terminal.CloseBrace brace refl refl nothing
no_more CallbackInterface brace = by_row rule.CallbackMembers terminal.CloseBrace brace refl refl nothing

none_at_end : (list : MemberList) → choice grammar sets (members_rule list) None ≡ None
none_at_end Interface = refl
none_at_end PartialInterface = refl
none_at_end Mixin = refl
none_at_end Namespace = refl
none_at_end CallbackInterface = refl

pub loop-preserved : goal.loop-preserved
loop-preserved c = goes_on c.loop.invariant c.in_ok-push.ensures.ok
    (one_more c.args.list (other_than terminal.CloseBrace _ (c.is_ahead.ensures.no c.if-is_ahead.false)))
    c.in_ok-member.ensures (member_has_token c.in_ok-member.field-0)

pub returns : goal.returns
returns c = elim c.loop-test.branch [
  | else-loop-test w ↦ goes_used_up (none_at_end c.args.list) (omega arith) c.loop.invariant
  | then-loop-test+then-is_ahead w ↦ goes_over c.loop.invariant (no_more c.args.list (w.is_ahead.ensures.yes w.if-is_ahead.true))
]
