use Rattle.std.proofs.Common.{Bor, map, sym, ap, slice_get, ◌-◌, length, ◌∙◌, arith}
use Rattle.widl_idl.specs.declared.types.IdlType.{IdlType}
use Rattle.widl_idl.specs.Flattened.{flattened_members, unannotated}
use Rattle.widl_idl.specs.Terms.{TypeTerm, packed, type_term}
use Rattle.widl_convert.proofs.UnionWalks.{none_left, passed, reached, still_left}
use Rattle.widl_convert.proofs.union_members.+walk.Goals as goal

abbrev term_at : Bor IdlType → TypeTerm
term_at t = unannotated (type_term t.now)

pub walk_among-returns-then-is_some-clause-member : goal.walk_among-returns-then-is_some-clause-member
walk_among-returns-then-is_some-clause-member t c =
    reached c.as_slice-member-items.result.now c.loop-member.member-index c.member-item.result (omega arith) c.member-item.is c.args.left c.loop-member.still c.loop-member.invariant.none c.loop-member.invariant.so_far
    term_at c.walk_in-walk.result.member (sym c.is_some.ensures ∙ c.if-is_some.true) c.walk_in-walk.ensures.member
    ∙ ap (λ types. slice_get (flattened_members (packed (map type_term types))) c.args.left) c.as_slice-member-items.ensures

pub walk_among-returns-then-is_some-clause-left : goal.walk_among-returns-then-is_some-clause-left
walk_among-returns-then-is_some-clause-left t c =
    c.walk_in-walk.ensures.left
    ∙ none_left c.as_slice-member-items.result.now c.loop-member.member-index c.member-item.result (omega arith) c.member-item.is c.args.left c.loop-member.still c.loop-member.invariant.none c.loop-member.invariant.so_far
    term_at c.walk_in-walk.result.member (sym c.is_some.ensures ∙ c.if-is_some.true) c.walk_in-walk.ensures.member
    ∙ ap (λ types. c.args.left - length (flattened_members (packed (map type_term types)))) c.as_slice-member-items.ensures

pub walk_among-loop-member-preserved : goal.walk_among-loop-member-preserved
walk_among-loop-member-preserved t c = record {
  none = passed c.as_slice-member-items.result.now c.loop-member.member-index c.member-item.result (omega arith) c.member-item.is c.args.left c.loop-member.still c.loop-member.invariant.none c.loop-member.invariant.so_far
      term_at c.walk_in-walk.result.member (sym c.is_some.ensures ∙ c.if-is_some.false) c.walk_in-walk.ensures.member;
  so_far = c.walk_in-walk.ensures.left
      ∙ still_left c.as_slice-member-items.result.now c.loop-member.member-index c.member-item.result (omega arith) c.member-item.is c.args.left c.loop-member.still c.loop-member.invariant.none c.loop-member.invariant.so_far;
}
