use Rattle.std.proofs.Common.{◌≡◌, ◌+◌, map, refl, ap, rules, subst, ◌∙◌}
use Rattle.widl_idl.specs.declared.tree.types.TypeForm.{the_lemmas}
use Rattle.widl_idl.specs.PlainTypes.{attribute_of, annotated_of, form_term, plain_annotated, plain_type}
use Rattle.widl_idl.specs.WrittenTypes.{notes_of}
use Rattle.widl_names.specs.SaidNotes.{Says}
use Rattle.widl_names.specs.TypeUses.{capped}
use Rattle.widl_names.proofs.TypedefEnds.{ends_after}
use Rattle.widl_names.proofs.typedef_ends.ChainEnd.after.Goals as goal

pub returns : goal.returns
returns c =
    let is : annotated_of c.args.ty.now ≡ plain_annotated c.args.ty.now.at (map attribute_of c.args.ty.now.attributes) (plain_type c.args.ty.now.ty.at (form_term c.args.ty.now.ty.form) c.args.ty.now.ty.question) = search (rules, the_lemmas) in
    let own = subst (λ list. Says c.of-own.result (notes_of (map attribute_of list))) c.as_slice.ensures c.of-own.ensures in
    λ definitions after. ends_after definitions (annotated_of c.args.ty.now) (form_term c.args.ty.now.ty.form) c.args.self.now _ (map attribute_of c.args.ty.now.attributes) c.args.ty.now.at c.args.ty.now.ty.at c.args.ty.now.ty.question is after refl refl (c.more_questions.ensures ∙ ap (λ n. capped (n + c.args.self.now.questions)) c.count_question.ensures) (λ more said. c.followed_by.ensures (notes_of (map attribute_of c.args.ty.now.attributes)) more own said)
