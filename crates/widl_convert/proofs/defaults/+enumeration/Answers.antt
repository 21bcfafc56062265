use Rattle.std.proofs.Common.{◌≡◌, rules, map, None, refl, sym, ap, ◌∙◌, arith}
use Rattle.widl_idl.specs.Flattened.{flattened_members}
use Rattle.widl_idl.specs.Terms.{packed, type_term}
use Rattle.widl_steps.specs.Defaults.{enumeration_among, enumeration_of}
use Rattle.widl_convert.proofs.FirstAmong.{found_at, none_more}
use Rattle.widl_convert.proofs.defaults.+enumeration.Goals as goal

pub enumeration_among-returns-in-Some : goal.enumeration_among-returns-in-Some
enumeration_among-returns-in-Some t c =
    sym (ap (λ types. enumeration_among (flattened_members (packed (map type_term types)))) (sym c.as_slice-member-items.ensures)
    ∙ found_at enumeration_of enumeration_among refl (λ t types. refl) c.as_slice-member-items.result.now c.loop-member.member-index c.member-item.result c.in-Some.number (omega arith) c.member-item.is c.loop-member.invariant (sym c.enumeration_in.ensures ∙ c.in-Some.is))

pub enumeration_among-loop-member-preserved : goal.enumeration_among-loop-member-preserved
enumeration_among-loop-member-preserved t c =
    let none : c.enumeration_in.result ≡ None = search rules in
    none_more enumeration_of enumeration_among refl (λ t types. refl) c.as_slice-member-items.result.now c.loop-member.member-index c.member-item.result (omega arith) c.member-item.is c.loop-member.invariant (sym c.enumeration_in.ensures ∙ none)
