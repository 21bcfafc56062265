use Rattle.std.proofs.Common.{◌≡◌, Some, arith, sym, subst, ◌∙◌}
use Rattle.widl_idl.specs.PlainTrees.{plain_definitions}
use Rattle.widl_idl.specs.PlainTypes.{form_term}
use Rattle.widl_names.specs.TypedefEnds.{IsEndOf, IsNext}
use Rattle.widl_names.specs.TypeUses.{typedef_at, typedef_of_form}
use Rattle.widl_names.proofs.TypedefEnds.{leads_to_end}
use Rattle.widl_names.proofs.TypeUses.{typedef_under}
use Rattle.widl_names.proofs.resolver.Resolver.after.Goals as goal

pub returns-in-Some-next_end : goal.returns-in-Some-next_end
returns-in-Some-next_end c =
    let definitions = plain_definitions c.args.self.now in
    let usage = c.args.from.now.usage in
    let named : typedef_of_form definitions (form_term usage.form.now) ≡ typedef_at definitions c.in-Some.number = typedef_under definitions (form_term usage.form.now) (Some c.in-Some.number) (sym c.in-Some.is ∙ c.requires) in
    let next = subst (IsNext definitions usage.typedefs (typedef_at definitions c.in-Some.number)) c.in-Some-next_end.is c.next_end.ensures in
    let fewer = c.through.ensures.fewer in (
      leads_to_end definitions usage c.through.result c.in-Some-next_end.end (subst (λ t. IsEndOf definitions t c.in-Some-next_end.end) (sym named) next.0) c.through.ensures,
      omega (arith, fewer),
    )
