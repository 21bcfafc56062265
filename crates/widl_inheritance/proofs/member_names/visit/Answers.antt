use Rattle.std.proofs.Common.{◌≡◌, map, nat_lt, rules, Some, slice_get, subst}
use Rattle.std.proofs.lemmas.Result.{IfOk-weaker}
use Rattle.widl_idl.specs.DefinitionTerms.{dict_term, member_term}
use Rattle.widl_idl.specs.First.{AtOne, FirstWhere}
use Rattle.widl_inheritance.specs.MemberEnds.{RepeatsKept, RepeatsKnown, end_of}
use Rattle.widl_graph.specs.Spans.{span_of}
use Rattle.widl_inheritance.proofs.Inheriting.{first_kept, term_at}
use Rattle.widl_inheritance.proofs.member_names.visit.Goals as goal

pub returns-in-Some-span-clause-found : goal.returns-in-Some-span-clause-found
returns-in-Some-span-clause-found c =
    let dicts = map dict_term c.args.dicts.now in
    let spans = c.args.spans.now.by_node.items in
    let dict = dict_term c.in-Some.dict.now in
    let span = c.in-Some-span.span in
    let kept = end_of c.args.ends.now in
    let is : slice_get dicts c.args.number ≡ Some dict = term_at c.args.dicts.now c.args.number c.in-Some.dict.now c.in-Some.ensures.lookup.3.0 c.in-Some.ensures.lookup.1 in
    let span_is : span_of spans c.args.number ≡ Some span = search rules in
    IfOk-weaker c.keep_members.result (λ found. FirstWhere (AtOne (RepeatsKnown (λ name. nat_lt span.start (kept name))) (map member_term c.as_slice.result.now)) found) (λ found. FirstWhere (RepeatsKept dicts spans kept c.args.number) found)
    (λ found l. first_kept dicts spans kept c.args.number dict span found is span_is (subst (λ ms. FirstWhere (AtOne (RepeatsKnown (λ name. nat_lt span.start (kept name))) (map member_term ms)) found) c.as_slice.ensures l)) c.keep_members.ensures.found
