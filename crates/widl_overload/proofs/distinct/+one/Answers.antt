use Rattle.std.proofs.Common.{◌≡◌, true, false, map, sym, ap, ◌∙◌, arith}
use Rattle.std.specs.List.{list_all}
use Rattle.widl_idl.specs.DefinitionTerms.{iface_term}
use Rattle.widl_idl.specs.Flattened.{flattened_member, flattened_members}
use Rattle.widl_idl.specs.Terms.{packed, type_term}
use Rattle.widl_overload.specs.sets.Pairs.{is_apart}
use Rattle.widl_overload.proofs.Walks.{fails_at, all_more}
use Rattle.widl_overload.proofs.distinct.+one.Goals as goal

pub apart_from_all_members-returns-then-not-apart_from_members : goal.apart_from_all_members-returns-then-not-apart_from_members
apart_from_all_members-returns-then-not-apart_from_members t c =
    let here : list_all (is_apart (map iface_term c.args.ifaces.now) c.args.c) (flattened_member (type_term c.member-item.result)) ≡ false = (let told = c.apart_from_members.ensures in let not = c.if-not-apart_from_members.true in cc) in
    sym (ap (λ types. list_all (is_apart (map iface_term c.args.ifaces.now) c.args.c) (flattened_members (packed (map type_term types)))) (sym c.as_slice-member-items.ensures)
    ∙ fails_at (is_apart (map iface_term c.args.ifaces.now) c.args.c) c.as_slice-member-items.result.now c.loop-member.member-index c.member-item.result (omega arith) c.member-item.is here)

pub apart_from_all_members-loop-member-preserved : goal.apart_from_all_members-loop-member-preserved
apart_from_all_members-loop-member-preserved t c =
    let here : list_all (is_apart (map iface_term c.args.ifaces.now) c.args.c) (flattened_member (type_term c.member-item.result)) ≡ true = (let told = c.apart_from_members.ensures in let all = c.if-not-apart_from_members.false in cc) in
    all_more (is_apart (map iface_term c.args.ifaces.now) c.args.c) c.as_slice-member-items.result.now c.loop-member.member-index c.member-item.result (omega arith) c.member-item.is here c.loop-member.invariant
