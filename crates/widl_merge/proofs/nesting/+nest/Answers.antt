use Rattle.std.proofs.Common.{◌≡◌, rules, arith, ap, ◌∙◌}
use Rattle.widl_idl.specs.declared.tree.types.TypeForm.{the_lemmas}
use Rattle.widl_idl.specs.Nesting.{form_depth, one_deeper, union_depth}
use Rattle.widl_idl.specs.PlainTrees.{plain_definitions}
use Rattle.widl_idl.specs.PlainTypes.{form_term, union_of}
use Rattle.widl_merge.specs.Depths.{capped, table_depth}
use Rattle.widl_merge.proofs.CappedDepths.{capped_one_deeper, union_more, union_all}
use Rattle.widl_merge.proofs.nesting.+nest.Goals as goal

pub union_depth-loop-member-preserved : goal.union_depth-loop-member-preserved
union_depth-loop-member-preserved levels c = union_more (table_depth (plain_definitions c.args.meanings.now) c.args.depths.now) c.args.members.now c.loop-member.member-index c.member-item.result c.loop-member.deepest c.annotated_depth-depth.result c.deeper-deepest.result (omega arith) c.member-item.is c.deeper-deepest.ensures c.annotated_depth-depth.ensures c.loop-member.invariant

pub union_depth-returns : goal.union_depth-returns
union_depth-returns levels c = union_all (table_depth (plain_definitions c.args.meanings.now) c.args.depths.now) c.args.members.now c.loop-member.member-index c.loop-member.deepest (omega arith) c.loop-member.invariant

pub form_depth-returns-in-Union : goal.form_depth-returns-in-Union
form_depth-returns-in-Union levels c =
    let named = table_depth (plain_definitions c.args.meanings.now) c.args.depths.now in
    let deepest = union_depth named (union_of c.as_slice.result.now) in
    let same : capped (one_deeper deepest) ≡ capped (form_depth named (form_term c.args.form.now)) = search (rules, the_lemmas) in
    c.one_deeper-in-Union.ensures ∙ ap (λ d. capped (one_deeper d)) c.union_depth.ensures ∙ capped_one_deeper deepest ∙ same
