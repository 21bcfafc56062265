use Rattle.std.proofs.Common.{arith, refl}
use Rattle.widl_idl.specs.PlainTrees.{arguments_of, plain_definitions}
use Rattle.widl_names.proofs.Mapped.{all_somewhere, next_somewhere}
use Rattle.widl_overload.specs.rules.DefaultRules.{LacksEmptyDefault}
use Rattle.widl_inheritance.specs.WrittenLists.{listed_arguments}
use Rattle.widl_inheritance.proofs.empty_defaults.first_lacking.Goals as goal

pub loop-list-preserved : goal.loop-list-preserved
loop-list-preserved c = λ list told.
    next_somewhere (λ l. arguments_of l.now) c.args.lists.now (listed_arguments c.args.lists.now) refl (LacksEmptyDefault list (plain_definitions c.args.resolver.now)) c.loop-list.list-index c.list-item.result c.loop-list.best c.in_ok-found.found _
    (omega arith) c.list-item.is (c.loop-list.invariant list told) (c.in_ok-found.ensures list told) c.earlier_violation-best.ensures

pub returns : goal.returns
returns c = λ list told.
    all_somewhere (λ l. arguments_of l.now) c.args.lists.now (listed_arguments c.args.lists.now) refl (LacksEmptyDefault list (plain_definitions c.args.resolver.now)) c.loop-list.list-index c.loop-list.best (omega arith) (c.loop-list.invariant list told)
