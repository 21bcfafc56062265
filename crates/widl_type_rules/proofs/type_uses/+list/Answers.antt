use Rattle.std.proofs.Common.{◌≡◌, [], map, rules, arith, ap}
use Rattle.std.proofs.lemmas.Result.{on_ok_weaker}
use Rattle.widl_idl.specs.declared.tree.types.TypeForm.{the_lemmas}
use Rattle.widl_idl.specs.PlainTypes.{annotated_of, attribute_of, form_term, plain_annotated, plain_type, type_of}
use Rattle.widl_overload.specs.rules.TypeUses.{uses_of_annotated}
use Rattle.widl_overload.specs.declared.type_role.TypeRole.TheVariants as role
use Rattle.widl_names.proofs.Listed.{listed_all}
use Rattle.widl_type_rules.proofs.ListedUses.{annotated_added, union_listed}
use Rattle.widl_type_rules.proofs.type_uses.+list.Goals as goal

pub list_annotated-returns : goal.list_annotated-returns
list_annotated-returns t c =
    let is : annotated_of c.args.ty.now ≡ plain_annotated c.args.ty.now.at (map attribute_of c.args.ty.now.attributes) (type_of c.args.ty.now.ty) = search (rules, the_lemmas) in
    let inner : type_of c.args.ty.now.ty ≡ plain_type c.args.ty.now.ty.at (form_term c.args.ty.now.ty.form) c.args.ty.now.ty.question = search (rules, the_lemmas) in
    on_ok_weaker c.list_form.result
    (annotated_added c.args.role (map attribute_of c.args.outer.now) (map attribute_of c.args.ty.now.attributes) c.args.ty.now.at c.args.ty.now.ty.at (form_term c.args.ty.now.ty.form) c.args.ty.now.ty.question _ (type_of c.args.ty.now.ty) (annotated_of c.args.ty.now) _ _ _ is inner (ap (map attribute_of) c.as_slice.ensures) c.in_ok-add_use.ensures)
    c.list_form.ensures

pub list_union-returns : goal.list_union-returns
list_union-returns levels c = listed_all (λ m. uses_of_annotated role.UnionMember [] (annotated_of m)) c.args.members.now c.loop-member.member-index _ _ _ (omega arith) (union_listed c.args.members.now) c.loop-member.invariant
