use Rattle.std.proofs.Common.{length, subst, sym}
use Rattle.std.proofs.lemmas.Result.{IfOk-weaker}
use Rattle.widl_idl.specs.First.{FirstWhere}
use Rattle.widl_idl.specs.MergingRules.{parent_links}
use Rattle.widl_idl.specs.PlainTrees.{plain_definitions}
use Rattle.widl_inheritance.specs.Iterations.{BelowCount, HasSecondAt, HidesAt}
use Rattle.widl_graph.specs.Flags.{TellsReached}
use Rattle.widl_graph.specs.Reaching.{IsAcyclic}
use Rattle.widl_inheritance.proofs.BrokenInterfaces.{hides_first, second_first}
use Rattle.widl_overload.specs.rules.IterableRules.{HasSecondIterable, HidesIterationMethod}
use Rattle.widl_inheritance.proofs.iterables.find_iterables.Goals as goal

pub inherited_flags-requires : goal.inherited_flags-requires
inherited_flags-requires c = subst (λ ds. IsAcyclic (parent_links (plain_definitions ds))) (sym c.meanings.ensures) c.requires

pub returns-clause-second : goal.returns-clause-second
returns-clause-second c =
    let all = plain_definitions c.args.scope.now in
    let own = c.in_ok-own.own.iterable.items in
    let inherited = c.in_ok-inherited.inherited.iterable.items in
    IfOk-weaker c.find_in_interfaces.result (λ violations. FirstWhere (BelowCount (HasSecondAt all inherited) (length all)) violations.second) (λ violations. FirstWhere (HasSecondIterable all) violations.second)
    (λ violations l. second_first all own inherited c.in_ok-own.ensures.iterable (subst (λ ds. TellsReached (parent_links (plain_definitions ds)) own inherited) c.meanings.ensures c.in_ok-inherited.ensures.iterable) violations.second l) c.find_in_interfaces.ensures.second

pub returns-clause-hidden : goal.returns-clause-hidden
returns-clause-hidden c =
    let all = plain_definitions c.args.scope.now in
    let own = c.in_ok-own.own.named.items in
    let inherited = c.in_ok-inherited.inherited.named.items in
    IfOk-weaker c.find_in_interfaces.result (λ violations. FirstWhere (BelowCount (HidesAt all own inherited) (length all)) violations.hidden) (λ violations. FirstWhere (HidesIterationMethod all) violations.hidden)
    (λ violations l. hides_first all own inherited c.in_ok-own.ensures.named (subst (λ ds. TellsReached (parent_links (plain_definitions ds)) own inherited) c.meanings.ensures c.in_ok-inherited.ensures.named) violations.hidden l) c.find_in_interfaces.ensures.hidden
