use Rattle.std.proofs.Common.{false, ap, subst, ◌∙◌}
use Rattle.std.proofs.lemmas.Result.{IfOk-weaker}
use Rattle.widl_idl.specs.DefinitionTerms.{defs_term}
use Rattle.widl_idl.specs.First.{FirstWhere, Somewhere}
use Rattle.widl_idl.specs.PlainTrees.{plain_definitions}
use Rattle.widl_names.proofs.PlainLists.{listed_same}
use Rattle.widl_overload.specs.rules.ArgumentRules.{argument_lists_of}
use Rattle.widl_overload.specs.rules.DefaultRules.{LacksEmptyDefault}
use Rattle.widl_inheritance.specs.WrittenLists.{listed_arguments}
use Rattle.widl_inheritance.proofs.empty_defaults.first_without_empty_default.Goals as goal

pub returns : goal.returns
returns c =
    IfOk-weaker c.first_lacking.result _ _
    (λ found f. subst (λ xs. FirstWhere (Somewhere (LacksEmptyDefault (defs_term c.args.defs.now) (plain_definitions c.args.scope.now)) xs) found)
    (ap listed_arguments c.as_slice.ensures.value ∙ c.in_ok-lists.ensures ∙ ap (argument_lists_of false) (listed_same c.all.result.now c.args.scope.now c.all.ensures.all))
    (subst (λ ds. FirstWhere (Somewhere (LacksEmptyDefault (defs_term c.args.defs.now) (plain_definitions ds)) (listed_arguments c.as_slice.result.now)) found) c.resolver.ensures (f (defs_term c.args.defs.now) c.in_ok-tables.ensures)))
    c.first_lacking.ensures
