use Rattle.std.proofs.Common.{◌≡◌, List, [], map, rules, ap, sym, subst, ◌∙◌}
use Rattle.std.proofs.lemmas.Result.{IfOk-weaker}
use Rattle.widl_idl.specs.declared.tree.types.TypeForm.{the_lemmas}
use Rattle.widl_idl.specs.PlainTrees.{plain_definitions}
use Rattle.widl_idl.specs.PlainTypes.{annotated_of, attribute_of, plain_annotated, type_of}
use Rattle.widl_idl.specs.Resolution.{Note}
use Rattle.widl_idl.specs.Terms.{type_term}
use Rattle.widl_idl.specs.WrittenTypes.{meaning_of_annotated, meaning_of_type, notes_of}
use Rattle.widl_names.specs.Extents.{outline}
use Rattle.widl_names.specs.SaidNotes.{Says}
use Rattle.widl_names.proofs.resolver.Resolver.outline_annotated.Goals as goal

pub returns : goal.returns
returns c =
    let definitions = plain_definitions c.args.self.now in
    let own = notes_of (map attribute_of c.args.ty.now.attributes) in
    let is : annotated_of c.args.ty.now ≡ plain_annotated c.args.ty.now.at (map attribute_of c.args.ty.now.attributes) (type_of c.args.ty.now.ty) = search (rules, the_lemmas) in
    let said = subst (λ list. Says c.of.result (notes_of (map attribute_of list))) c.as_slice.ensures c.of.ensures in
    IfOk-weaker c.outline.result
    (λ x. (notes : List Note) → Says c.of.result notes → type_term x ≡ outline (meaning_of_type definitions notes (type_of c.args.ty.now.ty)))
    (λ x. type_term x ≡ outline (meaning_of_annotated definitions [] (annotated_of c.args.ty.now)))
    (λ x so. so own said ∙ ap (λ a. outline (meaning_of_annotated definitions [] a)) (sym is))
    c.outline.ensures
