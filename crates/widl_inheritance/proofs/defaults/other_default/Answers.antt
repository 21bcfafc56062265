use Rattle.std.proofs.Common.{◌≡◌, Some, None, cond, map, rules, sym, ap, ◌∙◌}
use Rattle.widl_idl.specs.First.{violation_at}
use Rattle.widl_idl.specs.PlainTrees.{plain_definitions}
use Rattle.widl_idl.specs.PlainTypes.{annotated_of, attribute_of, plain_annotated, type_of}
use Rattle.widl_idl.specs.Terms.{type_term}
use Rattle.widl_idl.specs.WrittenTypes.{meaning_with}
use Rattle.widl_inheritance.specs.WrittenDefaults.{defaulted_of}
use Rattle.widl_inheritance.proofs.Fits.{other_here}
use Rattle.widl_inheritance.proofs.WrittenFits.{fitting_default}
use Rattle.widl_idl.specs.declared.tree.types.TypeForm.{the_lemmas}
use Rattle.widl_inheritance.proofs.defaults.other_default.Goals as goal

pub returns-then-fits_as_written : goal.returns-then-fits_as_written
returns-then-fits_as_written c = λ list known.
    let written = c.args.defaulted.now.ty.now in
    let is : annotated_of written ≡ plain_annotated written.at (map attribute_of written.attributes) (type_of written.ty) = search (rules, the_lemmas) in
    fitting_default list c.args.tables.now known (plain_definitions c.args.resolver.now) (defaulted_of c.args.defaulted.now) written.at (map attribute_of written.attributes) (type_of written.ty) is (sym c.if-fits_as_written.ensures)

pub returns-then-branch : goal.returns-then-branch
returns-then-branch c = λ list known.
    other_here list c.args.tables.now known (plain_definitions c.args.resolver.now) (defaulted_of c.args.defaulted.now) (type_term c.in_ok-ty.ty) c.in_ok-fits.field-0 None
    (c.in_ok-ty.ensures ∙ ap (λ xs. meaning_with (plain_definitions c.args.resolver.now) (map attribute_of xs) (annotated_of c.args.defaulted.now.ty.now)) c.as_slice-attributes.ensures)
    c.in_ok-fits.ensures (ap (λ b. cond b None (Some (violation_at c.args.defaulted.now.value.now.at))) (sym c.if-branch.true))

pub returns : goal.returns
returns c = λ list known.
    other_here list c.args.tables.now known (plain_definitions c.args.resolver.now) (defaulted_of c.args.defaulted.now) (type_term c.in_ok-ty.ty) c.in_ok-fits.field-0 (Some c.at.result)
    (c.in_ok-ty.ensures ∙ ap (λ xs. meaning_with (plain_definitions c.args.resolver.now) (map attribute_of xs) (annotated_of c.args.defaulted.now.ty.now)) c.as_slice-attributes.ensures)
    c.in_ok-fits.ensures (ap Some c.at.ensures ∙ ap (λ b. cond b None (Some (violation_at c.args.defaulted.now.value.now.at))) (sym c.if-branch.false))
