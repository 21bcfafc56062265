use Rattle.std.proofs.Common.{ap, sym, subst, ◌∙◌}
use Rattle.std.proofs.lemmas.Result.{IfOk-weaker}
use Rattle.widl_idl.specs.First.{AtOne, FirstWhere}
use Rattle.widl_idl.specs.MergingRules.{RepeatsOperation}
use Rattle.widl_idl.specs.PlainTrees.{definition_kind_of, plain_definitions}
use Rattle.widl_names.specs.PartTables.{ListsParts, listed_parts}
use Rattle.widl_merge.specs.Repeats.{RepeatsInOwner, is_owner}
use Rattle.widl_merge.proofs.TwoParts.{owner_first}
use Rattle.widl_merge.proofs.operations.first_of_owner.Goals as goal

pub returns-in_ok-list : goal.returns-in_ok-list
returns-in_ok-list c =
    let all = plain_definitions c.args.scope.now in
    let kind = definition_kind_of c.args.kind.now in
    let lists : ListsParts all c.args.number (listed_parts c.deref.result.now) =
    subst (λ definitions. ListsParts (plain_definitions definitions) c.args.number (listed_parts c.deref.result.now)) c.parts.ensures
    (subst (λ items. ListsParts (plain_definitions c.parts.result.now) c.args.number (listed_parts items)) (sym c.deref.ensures.value) c.in_ok-list.ensures) in
    IfOk-weaker c.first_repeated.result (λ found. FirstWhere (AtOne RepeatsOperation (listed_parts c.deref.result.now)) found) (λ found. FirstWhere (RepeatsInOwner all c.args.number kind) found)
    (λ found l. owner_first all c.args.number kind (listed_parts c.deref.result.now) found (ap (λ ds. is_owner (plain_definitions ds) c.args.number kind) (sym c.meanings.ensures) ∙ sym c.is_owner.ensures ∙ c.if-is_owner.true) c.requires lists l) c.first_repeated.ensures
