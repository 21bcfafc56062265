use Rattle.std.proofs.Common.{◌≡◌, ◌+◌, true, false, map, take, sym, ap, ◌∙◌, arith}
use Rattle.std.specs.List.{list_any}
use Rattle.widl_idl.specs.DefinitionTerms.{defs_term}
use Rattle.widl_idl.specs.Flattened.{flattened_member, flattened_members}
use Rattle.widl_idl.specs.Terms.{packed, type_term, type_terms}
use Rattle.widl_overload.proofs.Walks.{found_at, none_more}
use Rattle.widl_tables.specs.TypeTests.{before, suits}
use Rattle.widl_tables.proofs.Finding.{before_at, before_more}
use Rattle.widl_tables.proofs.type_walk.+walk.Goals as goal

pub find_among-returns-then-search-clause-found : goal.find_among-returns-then-search-clause-found
find_among-returns-then-search-clause-found t c =
    let here : list_any (suits (defs_term c.args.defs.now) c.args.class c.args.test) (flattened_member (type_term c.member-item.result)) ≡ true = sym c.find_in-search.ensures.found ∙ c.if-search.true in
    c.if-search.true
    ∙ sym (ap (λ types. list_any (suits (defs_term c.args.defs.now) c.args.class c.args.test) (flattened_members (packed (map type_term types)))) (sym c.as_slice-member-items.ensures)
    ∙ found_at (suits (defs_term c.args.defs.now) c.args.class c.args.test) c.as_slice-member-items.result.now c.loop-member.member-index c.member-item.result (omega arith) c.member-item.is here)

pub find_among-returns-then-search-clause-passed : goal.find_among-returns-then-search-clause-passed
find_among-returns-then-search-clause-passed t c =
    let here : list_any (suits (defs_term c.args.defs.now) c.args.class c.args.test) (flattened_member (type_term c.member-item.result)) ≡ true = sym c.find_in-search.ensures.found ∙ c.if-search.true in
    let all : before (suits (defs_term c.args.defs.now) c.args.class c.args.test) (flattened_members (packed (type_terms c.args.members.now)))
    ≡ before (suits (defs_term c.args.defs.now) c.args.class c.args.test) (flattened_members (packed (map type_term (take c.loop-member.member-index c.as_slice-member-items.result.now)))) + before (suits (defs_term c.args.defs.now) c.args.class c.args.test) (flattened_member (type_term c.member-item.result))
    = ap (λ types. before (suits (defs_term c.args.defs.now) c.args.class c.args.test) (flattened_members (packed (map type_term types)))) (sym c.as_slice-member-items.ensures)
    ∙ before_at (suits (defs_term c.args.defs.now) c.args.class c.args.test) c.as_slice-member-items.result.now c.loop-member.member-index c.member-item.result (omega arith) c.member-item.is c.loop-member.invariant.none here in
    omega (arith, all, c.loop-member.invariant.so_far, c.find_in-search.ensures.passed)

pub find_among-loop-member-preserved : goal.find_among-loop-member-preserved
find_among-loop-member-preserved t c =
    let here : list_any (suits (defs_term c.args.defs.now) c.args.class c.args.test) (flattened_member (type_term c.member-item.result)) ≡ false = sym c.find_in-search.ensures.found ∙ c.if-search.false in
    let more : before (suits (defs_term c.args.defs.now) c.args.class c.args.test) (flattened_members (packed (map type_term (take (c.loop-member.member-index + 1) c.as_slice-member-items.result.now))))
    ≡ before (suits (defs_term c.args.defs.now) c.args.class c.args.test) (flattened_members (packed (map type_term (take c.loop-member.member-index c.as_slice-member-items.result.now)))) + before (suits (defs_term c.args.defs.now) c.args.class c.args.test) (flattened_member (type_term c.member-item.result))
    = before_more (suits (defs_term c.args.defs.now) c.args.class c.args.test) c.as_slice-member-items.result.now c.loop-member.member-index c.member-item.result (omega arith) c.member-item.is c.loop-member.invariant.none in
    record {
      none = none_more (suits (defs_term c.args.defs.now) c.args.class c.args.test) c.as_slice-member-items.result.now c.loop-member.member-index c.member-item.result (omega arith) c.member-item.is here c.loop-member.invariant.none;
      so_far = omega (arith, more, c.loop-member.invariant.so_far, c.find_in-search.ensures.passed);
    }
