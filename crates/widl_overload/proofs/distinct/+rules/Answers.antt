use Rattle.std.proofs.Common.{◌≡◌, true, false, not, map, Some, sym, ap, ◌∙◌, arith}
use Rattle.std.specs.List.{list_all}
use Rattle.std.specs.Option.{option_copied, option_map}
use Rattle.std.proofs.lemmas.List.{take_all}
use Rattle.widl_idl.specs.DefinitionTerms.{iface_term}
use Rattle.widl_idl.specs.Terms.{type_term, type_terms}
use Rattle.widl_overload.specs.sets.Distinct.{distinguishable}
use Rattle.widl_overload.specs.sets.Pairs.{apart_from, listed_terms, second_members}
use Rattle.widl_overload.proofs.Closed.{other_told}
use Rattle.widl_overload.proofs.Ruled.{clash_told, left_told, listed_packed}
use Rattle.widl_overload.proofs.Walks.{term_fails, term_more}
use Rattle.widl_overload.proofs.distinct.+rules.Goals as goal

pub are_distinguishable-returns-then-not-do_clash : goal.are_distinguishable-returns-then-not-do_clash
are_distinguishable-returns-then-not-do_clash t c =
    let none : c.do_clash.result ≡ false = (let not = c.if-not-do_clash.true in cc) in
    let second : second_members (type_term c.args.a.now) (type_term c.args.b.now) ≡ Some (map type_term c.in-Some.others.now)
    = sym c.second_members.ensures ∙ ap (λ r. option_map listed_terms (option_copied r)) c.in-Some.is ∙ ap Some (listed_packed (map type_term c.in-Some.others.now)) in
    left_told (map iface_term c.args.ifaces.now) (type_term c.args.a.now) (type_term c.args.b.now) (map type_term c.in-Some.others.now) c.do_clash.result c.members_apart_from.result second c.do_clash.ensures none c.members_apart_from.ensures

pub are_distinguishable-returns-else-not-do_clash : goal.are_distinguishable-returns-else-not-do_clash
are_distinguishable-returns-else-not-do_clash t c =
    let clash : c.do_clash.result ≡ true = (let not = c.if-not-do_clash.false in cc) in
    let second : second_members (type_term c.args.a.now) (type_term c.args.b.now) ≡ Some (map type_term c.in-Some.others.now)
    = sym c.second_members.ensures ∙ ap (λ r. option_map listed_terms (option_copied r)) c.in-Some.is ∙ ap Some (listed_packed (map type_term c.in-Some.others.now)) in
    ap not clash ∙ clash_told (map iface_term c.args.ifaces.now) (type_term c.args.a.now) (type_term c.args.b.now) (map type_term c.in-Some.others.now) c.do_clash.result second c.do_clash.ensures clash

pub are_distinguishable-returns-in-None : goal.are_distinguishable-returns-in-None
are_distinguishable-returns-in-None t c =
    c.flattened_apart.ensures ∙ other_told (map iface_term c.args.ifaces.now) (type_term c.args.a.now) (type_term c.args.b.now) (sym c.second_members.ensures ∙ ap (λ r. option_map listed_terms (option_copied r)) c.in-None.is)

pub each_apart_from-returns-then-not-are_distinguishable : goal.each_apart_from-returns-then-not-are_distinguishable
unfolding apart_from
each_apart_from-returns-then-not-are_distinguishable t c =
    let ifaces = map iface_term c.args.ifaces.now in
    let one = type_term c.member-item.result in
    let apart : distinguishable ifaces one (type_term c.other-item.result) ≡ false = (let told = c.are_distinguishable.ensures in let not = c.if-not-are_distinguishable.true in cc) in
    let others : list_all (distinguishable ifaces one) (map type_term c.args.others.now) ≡ false
    = term_fails (distinguishable ifaces one) c.args.others.now c.loop-other.other-index c.other-item.result (omega arith) c.other-item.is apart in
    sym (ap (list_all (apart_from ifaces (map type_term c.args.others.now))) (listed_packed (type_terms c.args.members.now))
    ∙ ap (λ types. list_all (apart_from ifaces (map type_term c.args.others.now)) (map type_term types)) (sym c.as_slice-member-items.ensures)
    ∙ term_fails (apart_from ifaces (map type_term c.args.others.now)) c.as_slice-member-items.result.now c.loop-member.member-index c.member-item.result (omega arith) c.member-item.is others)

pub each_apart_from-loop-other-preserved : goal.each_apart_from-loop-other-preserved
unfolding apart_from
each_apart_from-loop-other-preserved t c =
    let ifaces = map iface_term c.args.ifaces.now in
    let one = type_term c.member-item.result in
    let apart : distinguishable ifaces one (type_term c.other-item.result) ≡ true = (let told = c.are_distinguishable.ensures in let not = c.if-not-are_distinguishable.false in cc) in
    term_more (distinguishable ifaces one) c.args.others.now c.loop-other.other-index c.other-item.result (omega arith) c.other-item.is apart c.loop-other.invariant

pub each_apart_from-returns : goal.each_apart_from-returns
unfolding apart_from
each_apart_from-returns t c =
    let test = list_all (apart_from (map iface_term c.args.ifaces.now) (map type_term c.args.others.now)) in
    sym (ap test (listed_packed (type_terms c.args.members.now)) ∙ ap (λ types. test (map type_term types)) (sym c.as_slice-member-items.ensures)
    ∙ ap (λ types. test (map type_term types)) (sym (take_all c.loop-member.member-index c.as_slice-member-items.result.now (omega arith))) ∙ c.loop-member.invariant)

pub each_apart_from-loop-member-preserved : goal.each_apart_from-loop-member-preserved
unfolding apart_from
each_apart_from-loop-member-preserved t c =
    let test = distinguishable (map iface_term c.args.ifaces.now) (type_term c.member-item.result) in
    let all : list_all test (map type_term c.args.others.now) ≡ true
    = ap (λ types. list_all test (map type_term types)) (sym (take_all c.loop-other.other-index c.args.others.now (omega arith))) ∙ c.loop-other.invariant in
    term_more (apart_from (map iface_term c.args.ifaces.now) (map type_term c.args.others.now)) c.as_slice-member-items.result.now c.loop-member.member-index c.member-item.result (omega arith) c.member-item.is all c.loop-member.invariant
