use Rattle.std.proofs.Common.{◌≡◌, true, false, map, sym, ap, ◌∙◌, arith}
use Rattle.std.specs.List.{list_all}
use Rattle.widl_idl.specs.DefinitionTerms.{iface_term}
use Rattle.widl_idl.specs.Flattened.{flattened_member, flattened_members}
use Rattle.widl_idl.specs.Terms.{packed, type_term}
use Rattle.widl_overload.specs.sets.Pairs.{each_apart}
use Rattle.widl_overload.proofs.Walks.{fails_at, all_more}
use Rattle.widl_overload.proofs.distinct.+pairs.Goals as goal

pub all_members_apart-returns-then-not-members_apart : goal.all_members_apart-returns-then-not-members_apart
all_members_apart-returns-then-not-members_apart t c =
    let here : list_all (each_apart (map iface_term c.args.ifaces.now) (flattened_member (type_term c.args.b.now))) (flattened_member (type_term c.member-item.result)) ≡ false = (let told = c.members_apart.ensures in let not = c.if-not-members_apart.true in cc) in
    sym (ap (λ types. list_all (each_apart (map iface_term c.args.ifaces.now) (flattened_member (type_term c.args.b.now))) (flattened_members (packed (map type_term types)))) (sym c.as_slice-member-items.ensures)
    ∙ fails_at (each_apart (map iface_term c.args.ifaces.now) (flattened_member (type_term c.args.b.now))) c.as_slice-member-items.result.now c.loop-member.member-index c.member-item.result (omega arith) c.member-item.is here)

pub all_members_apart-loop-member-preserved : goal.all_members_apart-loop-member-preserved
all_members_apart-loop-member-preserved t c =
    let here : list_all (each_apart (map iface_term c.args.ifaces.now) (flattened_member (type_term c.args.b.now))) (flattened_member (type_term c.member-item.result)) ≡ true = (let told = c.members_apart.ensures in let all = c.if-not-members_apart.false in cc) in
    all_more (each_apart (map iface_term c.args.ifaces.now) (flattened_member (type_term c.args.b.now))) c.as_slice-member-items.result.now c.loop-member.member-index c.member-item.result (omega arith) c.member-item.is here c.loop-member.invariant
