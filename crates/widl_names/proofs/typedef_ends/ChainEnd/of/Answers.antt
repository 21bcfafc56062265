use Rattle.std.proofs.Common.{◌≡◌, map, refl, rules, subst}
use Rattle.widl_idl.specs.declared.tree.types.TypeForm.{the_lemmas}
use Rattle.widl_idl.specs.PlainTypes.{attribute_of, annotated_of, form_term, plain_annotated, plain_type}
use Rattle.widl_idl.specs.WrittenTypes.{notes_of}
use Rattle.widl_names.specs.SaidNotes.{Says}
use Rattle.widl_names.proofs.TypedefEnds.{ends_alone}
use Rattle.widl_names.proofs.typedef_ends.ChainEnd.of.Goals as goal

pub returns-clause-end : goal.returns-clause-end
returns-clause-end c =
    let is : annotated_of c.args.ty.now ≡ plain_annotated c.args.ty.now.at (map attribute_of c.args.ty.now.attributes) (plain_type c.args.ty.now.ty.at (form_term c.args.ty.now.ty.form) c.args.ty.now.ty.question) = search (rules, the_lemmas) in
    λ definitions. ends_alone definitions (annotated_of c.args.ty.now) _ (map attribute_of c.args.ty.now.attributes) c.args.ty.now.at c.args.ty.now.ty.at c.args.ty.now.ty.question is c.count_question.ensures refl (subst (λ list. Says c.of.result (notes_of (map attribute_of list))) c.as_slice.ensures c.of.ensures)
