use Rattle.std.proofs.Common.{◌≡◌, ◌+◌, true, false, map, take, sym, ap, ◌∙◌, arith}
use Rattle.widl_idl.specs.Terms.{packed, type_term}
use Rattle.widl_convert.specs.Served.{are_served_types, is_served_type}
use Rattle.widl_overload.proofs.Walks.{term_fails, term_more}
use Rattle.widl_convert.proofs.ServedTypes.{served_all}
use Rattle.widl_convert.proofs.served.+types.Goals as goal

pub are_served_types-returns-then-not-is_served_type : goal.are_served_types-returns-then-not-is_served_type
are_served_types-returns-then-not-is_served_type t c =
    let here : is_served_type (type_term c.member-item.result) ≡ false = (let told = c.is_served_type.ensures in let not = c.if-not-is_served_type.true in cc) in
    sym (ap (λ types. are_served_types (packed (map type_term types))) (sym c.as_slice-member-items.ensures)
    ∙ served_all (map type_term c.as_slice-member-items.result.now)
    ∙ term_fails is_served_type c.as_slice-member-items.result.now c.loop-member.member-index c.member-item.result (omega arith) c.member-item.is here)

pub are_served_types-loop-member-preserved : goal.are_served_types-loop-member-preserved
are_served_types-loop-member-preserved t c =
    let here : is_served_type (type_term c.member-item.result) ≡ true = (let told = c.is_served_type.ensures in let all = c.if-not-is_served_type.false in cc) in
    served_all (map type_term (take (c.loop-member.member-index + 1) c.as_slice-member-items.result.now))
    ∙ term_more is_served_type c.as_slice-member-items.result.now c.loop-member.member-index c.member-item.result (omega arith) c.member-item.is here
    (sym (served_all (map type_term (take c.loop-member.member-index c.as_slice-member-items.result.now))) ∙ c.loop-member.invariant)
