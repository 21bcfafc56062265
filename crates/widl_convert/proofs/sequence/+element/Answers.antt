use Rattle.std.proofs.Common.{◌≡◌, rules, map, option_map, None, refl, sym, ap, ◌∙◌, arith}
use Rattle.widl_idl.specs.Flattened.{flattened_members}
use Rattle.widl_idl.specs.Terms.{packed, type_term}
use Rattle.widl_steps.specs.Sequences.{element_among, element_of}
use Rattle.widl_convert.proofs.FirstAmong.{found_at, none_more}
use Rattle.widl_convert.proofs.sequence.+element.Goals as goal

pub element_within_members-returns-in-Some : goal.element_within_members-returns-in-Some
element_within_members-returns-in-Some t c =
    sym (ap (λ types. element_among (flattened_members (packed (map type_term types)))) (sym c.as_slice-member-items.ensures)
    ∙ found_at element_of element_among refl (λ x types. refl) c.as_slice-member-items.result.now c.loop-member.member-index c.member-item.result (type_term c.in-Some.element.now) (omega arith) c.member-item.is c.loop-member.invariant (sym c.element_within.ensures ∙ ap (option_map (λ e. type_term e.now)) c.in-Some.is))

pub element_within_members-loop-member-preserved : goal.element_within_members-loop-member-preserved
element_within_members-loop-member-preserved t c =
    let none : c.element_within.result ≡ None = search rules in
    none_more element_of element_among refl (λ x types. refl) c.as_slice-member-items.result.now c.loop-member.member-index c.member-item.result (omega arith) c.member-item.is c.loop-member.invariant (sym c.element_within.ensures ∙ ap (option_map (λ e. type_term e.now)) none)
