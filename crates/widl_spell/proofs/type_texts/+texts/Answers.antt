use Rattle.std.proofs.Common.{◌++◌, codes, ap, ◌∙◌}
use Rattle.widl_idl.specs.DefinitionTerms.{defs_term}
use Rattle.widl_spell.proofs.JoinedTexts.{one_more_member}
use Rattle.widl_spell.proofs.type_texts.+texts.Goals as goal

pub push_members-loop-place-preserved : goal.push_members-loop-place-preserved
push_members-loop-place-preserved t c = one_more_member (defs_term c.args.defs.now) (codes " or ") c.args.text.now.items c.loop-place.text.items c.push.new.text.items c.push_type.new.text.items c.as_slice-member-items.result.now c.loop-place.place c.member-item.result c.loop-place-test.true c.member-item.is (c.in_ok-push.ensures ∙ ap (λ xs. c.loop-place.text.items ++ xs) c.sign_before.ensures) c.in_ok-push_type.ensures c.loop-place.invariant
