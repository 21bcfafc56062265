use Rattle.std.proofs.Common.{◌≡◌, List, []}
use Rattle.std.proofs.lemmas.Result.{IfOk-weaker}
use Rattle.widl_idl.specs.PlainTrees.{plain_definitions}
use Rattle.widl_idl.specs.PlainTypes.{type_of}
use Rattle.widl_idl.specs.Resolution.{Note}
use Rattle.widl_idl.specs.Terms.{type_term}
use Rattle.widl_idl.specs.WrittenTypes.{meaning_alone, meaning_of_type}
use Rattle.widl_names.specs.Extents.{outline}
use Rattle.widl_names.specs.SaidNotes.{Says}
use Rattle.widl_names.proofs.resolver.Resolver.outline_alone.Goals as goal

pub returns : goal.returns
returns c =
    let definitions = plain_definitions c.args.self.now in
    IfOk-weaker c.outline.result
    (λ x. (notes : List Note) → Says c.none.result notes → type_term x ≡ outline (meaning_of_type definitions notes (type_of c.args.ty.now)))
    (λ x. type_term x ≡ outline (meaning_alone definitions (type_of c.args.ty.now)))
    (λ x so. so [] c.none.ensures)
    c.outline.ensures
