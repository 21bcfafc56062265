use Rattle.std.proofs.Common.{◌≡◌, true, false, map, sym, ap, ◌∙◌, arith}
use Rattle.std.specs.List.{list_any}
use Rattle.widl_idl.specs.Flattened.{flattened_member, flattened_members}
use Rattle.widl_idl.specs.Terms.{packed, type_term}
use Rattle.widl_overload.proofs.Walks.{found_at, none_more}
use Rattle.widl_fits.specs.Fitting.{takes}
use Rattle.widl_fits.proofs.literals.+flattened.Goals as goal

pub any_member_takes-returns-then-any_takes : goal.any_member_takes-returns-then-any_takes
any_member_takes-returns-then-any_takes t c =
    let here : list_any (takes c.args.tables.now c.args.literal.now) (flattened_member (type_term c.member-item.result)) ≡ true = (let told = c.any_takes.ensures in let found = c.if-any_takes.true in cc) in
    sym (ap (λ types. list_any (takes c.args.tables.now c.args.literal.now) (flattened_members (packed (map type_term types)))) (sym c.as_slice-member-items.ensures)
    ∙ found_at (takes c.args.tables.now c.args.literal.now) c.as_slice-member-items.result.now c.loop-member.member-index c.member-item.result (omega arith) c.member-item.is here)

pub any_member_takes-loop-member-preserved : goal.any_member_takes-loop-member-preserved
any_member_takes-loop-member-preserved t c =
    let here : list_any (takes c.args.tables.now c.args.literal.now) (flattened_member (type_term c.member-item.result)) ≡ false = (let told = c.any_takes.ensures in let none = c.if-any_takes.false in cc) in
    none_more (takes c.args.tables.now c.args.literal.now) c.as_slice-member-items.result.now c.loop-member.member-index c.member-item.result (omega arith) c.member-item.is here c.loop-member.invariant
