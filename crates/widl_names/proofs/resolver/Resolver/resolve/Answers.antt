use Rattle.std.proofs.Common.{◌≡◌, List, ◌∙◌}
use Rattle.std.proofs.lemmas.Result.{IfOk-weaker}
use Rattle.widl_idl.specs.PlainTrees.{plain_definitions}
use Rattle.widl_idl.specs.PlainTypes.{type_of}
use Rattle.widl_idl.specs.Resolution.{Note}
use Rattle.widl_idl.specs.Terms.{type_term}
use Rattle.widl_idl.specs.WrittenTypes.{meaning_of_type}
use Rattle.widl_names.specs.declared.extent.Extent.TheVariants.{Whole}
use Rattle.widl_names.specs.Extents.{made}
use Rattle.widl_names.specs.SaidNotes.{Says}
use Rattle.widl_names.proofs.Extents.{made_whole}
use Rattle.widl_names.proofs.resolver.Resolver.resolve.Goals as goal

pub returns : goal.returns
returns c =
    let definitions = plain_definitions c.args.self.now in
    IfOk-weaker c.make.result
    (λ x. (notes : List Note) → Says c.args.annotations notes → type_term x ≡ made Whole (meaning_of_type definitions notes (type_of c.args.ty.now)))
    (λ x. (notes : List Note) → Says c.args.annotations notes → type_term x ≡ meaning_of_type definitions notes (type_of c.args.ty.now))
    (λ x so notes said. so notes said ∙ made_whole (meaning_of_type definitions notes (type_of c.args.ty.now)))
    c.make.ensures
