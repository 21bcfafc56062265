use Rattle.std.proofs.Common.{ℕ, List, [], ◌∷◌, ◌++◌, ◌+◌, ◌∙◌, ◌≤◌, ap, append_assoc, arith, drop, length, sym}
use Rattle.std.proofs.lemmas.List.{drop_all}
use Rattle.widl_idl.specs.DefinitionTerms.{defs_term}
use Rattle.widl_value.specs.IdlTerms.{IdlTerm, MemberTerms, member_term, member_terms, idl_term, idl_terms, packed_members}
use Rattle.widl_steps.specs.Results.{member_items, member_names}
use Rattle.widl_convert.proofs.OutgoingItems.{before, before_more, before_none, member_taken}
use Rattle.widl_convert.proofs.containers.named_members.Goals as goal

pub loop-place-preserved : goal.loop-place-preserved
loop-place-preserved c =
    let taken = member_taken (member_terms c.loop-place.members) (member_terms c.replace-dictionary.new.self) c.loop-place.place (member_term c.replace-dictionary.result) _ c.replace-dictionary.ensures.former c.replace-dictionary.ensures.list in (
      ap (λ (ns : List (List ℕ)). ns ++ member_names (defs_term c.args.defs.now) (packed_members (drop (c.loop-place.place + 1) (member_terms c.replace-dictionary.new.self)))) c.in_ok-push.ensures.ok
          ∙ append_assoc c.loop-place.names (c.in_ok-copy_of_name.field-0 ∷ []) (member_names (defs_term c.args.defs.now) (packed_members (drop (c.loop-place.place + 1) (member_terms c.replace-dictionary.new.self))))
          ∙ ap (λ (name : List ℕ). c.loop-place.names ++ name ∷ member_names (defs_term c.args.defs.now) (packed_members (drop (c.loop-place.place + 1) (member_terms c.replace-dictionary.new.self)))) c.in_ok-copy_of_name.ensures
          ∙ ap (λ (es : MemberTerms). c.loop-place.names ++ member_names (defs_term c.args.defs.now) es) (sym taken)
          ∙ c.loop-place.invariant.0,
      ap (λ (ws : List IdlTerm). before ws (member_items (packed_members (drop (c.loop-place.place + 1) (member_terms c.replace-dictionary.new.self))))) c.in_ok-push-2.ensures.ok
          ∙ before_more (idl_terms c.loop-place.items) (idl_term c.replace-dictionary.result.2) (member_items (packed_members (drop (c.loop-place.place + 1) (member_terms c.replace-dictionary.new.self))))
          ∙ ap (λ (es : MemberTerms). before (idl_terms c.loop-place.items) (member_items es)) (sym taken)
          ∙ c.loop-place.invariant.1,
    )

pub returns-clause-items : goal.returns-clause-items
returns-clause-items c =
    let past : length (member_terms c.loop-place.members) ≤ c.loop-place.place = omega (arith, c.loop-place-test.false, c.len.ensures) in
    sym (before_none (idl_terms c.loop-place.items))
    ∙ ap (λ (es : List (ℕ × ℕ × IdlTerm)). before (idl_terms c.loop-place.items) (member_items (packed_members es))) (sym (drop_all c.loop-place.place (member_terms c.loop-place.members) past))
    ∙ c.loop-place.invariant.1
