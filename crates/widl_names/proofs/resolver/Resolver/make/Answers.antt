use Rattle.std.proofs.Common.{◌≡◌, List, length, ap, sym, ◌∙◌}
use Rattle.std.proofs.lemmas.Result.{IfOk-weaker}
use Rattle.widl_idl.specs.declared.kind.Kind.TheVariants as kinds
use Rattle.widl_idl.specs.PlainTrees.{plain_definitions}
use Rattle.widl_idl.specs.PlainTypes.{type_of}
use Rattle.widl_idl.specs.Resolution.{Note}
use Rattle.widl_idl.specs.Terms.{type_term}
use Rattle.widl_idl.specs.WrittenTypes.{meaning_of_type, typedefs}
use Rattle.widl_names.specs.Extents.{made}
use Rattle.widl_names.specs.SaidNotes.{Says}
use Rattle.widl_names.specs.TypeUses.{meaning_of_use}
use Rattle.widl_names.proofs.KindNumbers.{typedef_count}
use Rattle.widl_names.proofs.TypeUses.{use_made}
use Rattle.widl_names.proofs.resolver.Resolver.make.Goals as goal

pub returns : goal.returns
returns c =
    let definitions = plain_definitions c.args.self.now in
    let view : c.self.inside.meanings ≡ c.args.self.now = c.self.view_is in
    let levels : c.of-start.result.typedefs ≡ length (typedefs definitions)
    = c.of-start.ensures.count ∙ c.count.ensures ∙ c.self.invariant.1.each kinds.Typedef ∙ sym (typedef_count (plain_definitions c.self.inside.meanings)) ∙ ap (λ ds. length (typedefs (plain_definitions ds))) view in
    IfOk-weaker c.use_type.result
    (λ x. (notes : List Note) → Says c.of-start.result.annotations notes → type_term x ≡ made c.args.extent (meaning_of_use definitions notes c.of-start.result))
    (λ x. (notes : List Note) → Says c.args.annotations notes → type_term x ≡ made c.args.extent (meaning_of_type definitions notes (type_of c.args.ty.now)))
    (λ x so notes said. use_made definitions c.args.extent c.of-start.result (type_of c.args.ty.now) c.args.annotations (length (typedefs definitions)) c.of-start.ensures.same c.of-start.ensures.annotations levels (type_term x) so notes said)
    c.use_type.ensures
