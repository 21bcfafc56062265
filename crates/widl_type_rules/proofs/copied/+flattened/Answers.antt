use Rattle.std.proofs.Common.{◌≡◌, true, false, map, sym, ap, ◌∙◌, arith}
use Rattle.std.specs.List.{list_any}
use Rattle.widl_idl.specs.Flattened.{flattened_member, flattened_members}
use Rattle.widl_idl.specs.Terms.{packed, type_term}
use Rattle.widl_overload.proofs.Walks.{found_at, none_more}
use Rattle.widl_overload.specs.rules.TypeRules.{is_copied}
use Rattle.widl_type_rules.proofs.copied.+flattened.Goals as goal

pub any_member_copied-returns-then-any_copied : goal.any_member_copied-returns-then-any_copied
any_member_copied-returns-then-any_copied t c =
    let here : list_any is_copied (flattened_member (type_term c.member-item.result)) ≡ true = (let told = c.any_copied.ensures in let found = c.if-any_copied.true in cc) in
    sym (ap (λ types. list_any is_copied (flattened_members (packed (map type_term types)))) (sym c.as_slice-member-items.ensures)
    ∙ found_at is_copied c.as_slice-member-items.result.now c.loop-member.member-index c.member-item.result (omega arith) c.member-item.is here)

pub any_member_copied-loop-member-preserved : goal.any_member_copied-loop-member-preserved
any_member_copied-loop-member-preserved t c =
    let here : list_any is_copied (flattened_member (type_term c.member-item.result)) ≡ false = (let told = c.any_copied.ensures in let none = c.if-any_copied.false in cc) in
    none_more is_copied c.as_slice-member-items.result.now c.loop-member.member-index c.member-item.result (omega arith) c.member-item.is here c.loop-member.invariant
