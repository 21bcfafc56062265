use Rattle.std.proofs.Common.{◌≡◌, length, ap, sym, ◌∙◌}
use Rattle.widl_idl.specs.declared.kind.Kind.TheVariants as kinds
use Rattle.widl_idl.specs.PlainTrees.{plain_definitions}
use Rattle.widl_idl.specs.PlainTypes.{type_of}
use Rattle.widl_idl.specs.WrittenTypes.{typedefs}
use Rattle.widl_names.proofs.KindNumbers.{typedef_count}
use Rattle.widl_names.proofs.TypeUses.{gathered_last}
use Rattle.widl_names.proofs.resolver.Resolver.all_annotations.Goals as goal

pub returns : goal.returns
returns c =
    let definitions = plain_definitions c.args.self.now in
    let view : c.self.inside.meanings ≡ c.args.self.now = c.self.view_is in
    let levels : c.of-start.result.typedefs ≡ length (typedefs definitions)
    = c.of-start.ensures.count ∙ c.count.ensures ∙ c.self.invariant.1.each kinds.Typedef ∙ sym (typedef_count (plain_definitions c.self.inside.meanings)) ∙ ap (λ ds. length (typedefs (plain_definitions ds))) view in
    λ notes said. gathered_last definitions c.of-start.result c.follow.result.usage c.args.before (type_of c.args.ty.now) (length (typedefs definitions)) c.follow.ensures.leads c.follow.ensures.last c.of-start.ensures.annotations c.of-start.ensures.form levels notes said
