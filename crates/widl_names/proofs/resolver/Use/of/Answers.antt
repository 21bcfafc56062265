use Rattle.std.proofs.Common.{◌≡◌, rules}
use Rattle.widl_idl.specs.declared.tree.types.TypeForm.{the_lemmas}
use Rattle.widl_idl.specs.PlainTypes.{form_term, plain_type, type_of}
use Rattle.widl_names.proofs.TypeUses.{means_written}
use Rattle.widl_names.proofs.resolver.Use.of.Goals as goal

pub returns-clause-same : goal.returns-clause-same
returns-clause-same c =
    let is : type_of c.args.ty.now ≡ plain_type c.args.ty.now.at (form_term c.args.ty.now.form) c.args.ty.now.question = search (rules, the_lemmas) in
    means_written _ (type_of c.args.ty.now) c.args.ty.now.at c.args.ty.now.question is c.count_question.ensures
