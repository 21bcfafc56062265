use Rattle.std.proofs.Common.{[], ◌∷◌, refl, arith}
use Rattle.widl_grammar.specs.declared.rule.Rule.TheVariants as rule
use Rattle.widl_grammar.specs.declared.terminal.Terminal.TheVariants as terminal
use Rattle.widl_syntax.proofs.Reading.{by_row, nothing, other_than}
use Rattle.widl_syntax.proofs.Lists.{goes_on, goes_over, goes_used_up, repeats_after}
use Rattle.widl_syntax.proofs.Tokens.{dictionary_member_has_token}
use Rattle.widl_syntax.proofs.build.reader.Reader.dictionary_members.Goals as goal
use Rattle.widl_syntax.proofs.build.reader.Reader.dictionary_members.Goals.{else-loop-test, then-loop-test+then-is_ahead}

pub loop-preserved : goal.loop-preserved
loop-preserved c = goes_on c.loop.invariant c.in_ok-push.ensures.ok
    (repeats_after rule.DictionaryMembers (terminal.CloseBrace ∷ []) 0 refl refl refl (other_than terminal.CloseBrace _ (c.is_ahead.ensures.no c.if-is_ahead.false)))
    c.in_ok-dictionary_member.ensures (dictionary_member_has_token c.in_ok-dictionary_member.field-0)

pub returns : goal.returns
returns c = elim c.loop-test.branch [
  | else-loop-test w ↦ goes_used_up refl (omega arith) c.loop.invariant
  | then-loop-test+then-is_ahead w ↦ goes_over c.loop.invariant (by_row rule.DictionaryMembers terminal.CloseBrace (w.is_ahead.ensures.yes w.if-is_ahead.true) refl refl nothing)
]
