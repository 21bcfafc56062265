use Rattle.std.proofs.Common.{ℕ, List, [], ◌∷◌, ◌++◌, ◌+◌, ◌∙◌, ◌≤◌, ap, append_assoc, arith, drop, length, sym}
use Rattle.std.proofs.lemmas.List.{drop_all}
use Rattle.widl_value.specs.IdlTerms.{IdlTerm, EntryTerms, entry_term, entry_terms, idl_term, idl_terms, packed_entries}
use Rattle.widl_steps.specs.Results.{entry_items, entry_names}
use Rattle.widl_convert.proofs.OutgoingItems.{before, before_more, before_none, entry_taken}
use Rattle.widl_convert.proofs.containers.named_entries.Goals as goal

pub loop-place-preserved : goal.loop-place-preserved
loop-place-preserved c =
    let taken = entry_taken (entry_terms c.loop-place.entries) (entry_terms c.replace-name.new.self) c.loop-place.place (entry_term c.replace-name.result) _ c.replace-name.ensures.former c.replace-name.ensures.list in (
      ap (λ (ns : List (List ℕ)). ns ++ entry_names (packed_entries (drop (c.loop-place.place + 1) (entry_terms c.replace-name.new.self)))) c.in_ok-push.ensures.ok
          ∙ append_assoc c.loop-place.names (c.replace-name.result.0 ∷ []) (entry_names (packed_entries (drop (c.loop-place.place + 1) (entry_terms c.replace-name.new.self))))
          ∙ ap (λ (es : EntryTerms). c.loop-place.names ++ entry_names es) (sym taken)
          ∙ c.loop-place.invariant.0,
      ap (λ (ws : List IdlTerm). before ws (entry_items (packed_entries (drop (c.loop-place.place + 1) (entry_terms c.replace-name.new.self))))) c.in_ok-push-2.ensures.ok
          ∙ before_more (idl_terms c.loop-place.items) (idl_term c.replace-name.result.1) (entry_items (packed_entries (drop (c.loop-place.place + 1) (entry_terms c.replace-name.new.self))))
          ∙ ap (λ (es : EntryTerms). before (idl_terms c.loop-place.items) (entry_items es)) (sym taken)
          ∙ c.loop-place.invariant.1,
    )

pub returns-clause-items : goal.returns-clause-items
returns-clause-items c =
    let past : length (entry_terms c.loop-place.entries) ≤ c.loop-place.place = omega (arith, c.loop-place-test.false, c.len.ensures) in
    sym (before_none (idl_terms c.loop-place.items))
    ∙ ap (λ (es : List (List ℕ × IdlTerm)). before (idl_terms c.loop-place.items) (entry_items (packed_entries es))) (sym (drop_all c.loop-place.place (entry_terms c.loop-place.entries) past))
    ∙ c.loop-place.invariant.1
