use Rattle.std.proofs.Common.{Some, None, true, false, map, refl, sym, ap, ◌∙◌}
use Rattle.widl_idl.specs.PlainTrees.{argument_of, plain_definitions}
use Rattle.widl_idl.specs.PlainTypes.{annotated_of, attribute_of}
use Rattle.widl_idl.specs.Terms.{type_term}
use Rattle.widl_idl.specs.WrittenTypes.{meaning_with}
use Rattle.widl_inheritance.proofs.Lacking.{lacking_here}
use Rattle.widl_inheritance.proofs.empty_defaults.lacking.Goals as goal

pub returns-then-takes_no_member : goal.returns-then-takes_no_member
returns-then-takes_no_member c = λ list told.
    lacking_here list (plain_definitions c.args.resolver.now) c.args.tables.now told c.args.absent (argument_of c.args.argument.now) (type_term c.in_ok-ty.ty) true (Some c.at.result)
    (c.in_ok-ty.ensures ∙ ap (λ xs. meaning_with (plain_definitions c.args.resolver.now) (map attribute_of xs) (annotated_of c.args.argument.now.ty)) c.as_slice.ensures)
    (sym c.if-not-needs_default.ensures) c.if-takes_no_member.ensures (ap Some c.at.ensures)

pub returns : goal.returns
returns c = λ list told.
    lacking_here list (plain_definitions c.args.resolver.now) c.args.tables.now told c.args.absent (argument_of c.args.argument.now) (type_term c.in_ok-ty.ty) false None
    (c.in_ok-ty.ensures ∙ ap (λ xs. meaning_with (plain_definitions c.args.resolver.now) (map attribute_of xs) (annotated_of c.args.argument.now.ty)) c.as_slice.ensures)
    (sym c.if-not-needs_default.ensures) c.if-takes_no_member.ensures refl
