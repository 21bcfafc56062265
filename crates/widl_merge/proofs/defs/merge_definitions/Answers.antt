use Rattle.std.proofs.Common.{sym, subst}
use Rattle.widl_idl.specs.PlainTrees.{definition_kind_of, plain_definitions}
use Rattle.widl_names.proofs.PlainLists.{kind_there, listed_same}
use Rattle.widl_merge.specs.GrownLists.{AreKept, Grows, MeansItself}
use Rattle.widl_merge.proofs.Growing.{all_listed, listed_step}
use Rattle.widl_merge.proofs.Unbroken.{means_itself}
use Rattle.widl_merge.proofs.defs.merge_definitions.Goals as goal

pub loop-number-init : goal.loop-number-init
loop-number-init c = c.no_definitions-defs.ensures (plain_definitions c.args.scope.now)

pub add_definition-requires-clause-means : goal.add_definition-requires-clause-means
add_definition-requires-clause-means c =
    let kind = definition_kind_of c.index-definitions-number.result.now.kind in
    subst (λ ds. MeansItself (plain_definitions ds) c.loop-number.number kind) (sym c.in_ok-sources.ensures)
    (means_itself (plain_definitions c.args.scope.now) c.loop-number.number kind c.requires
    (kind_there c.all-definitions.result.now c.args.scope.now c.loop-number.number c.index-definitions-number.result c.loop-number-test.true c.index-definitions-number.is c.all-definitions.ensures.all))

pub add_definition-requires-clause-kept : goal.add_definition-requires-clause-kept
add_definition-requires-clause-kept c = subst (λ ds. AreKept (plain_definitions ds)) (sym c.in_ok-sources.ensures) c.requires

pub loop-number-preserved : goal.loop-number-preserved
loop-number-preserved c =
    let kind = definition_kind_of c.index-definitions-number.result.now.kind in
    listed_step (plain_definitions c.args.scope.now) c.all-definitions.result.now c.loop-number.number c.index-definitions-number.result c.loop-number.defs c.add_definition.new.defs c.loop-number-test.true c.index-definitions-number.is
    (subst (λ ds. Grows (plain_definitions ds) kind c.loop-number.defs c.add_definition.new.defs) c.in_ok-sources.ensures c.in_ok-add_definition.ensures) c.loop-number.invariant

pub returns : goal.returns
returns c =
    all_listed (plain_definitions c.args.scope.now) c.all-definitions.result.now c.loop-number.number c.loop-number.defs c.loop-number-test.false
    (listed_same c.all-definitions.result.now c.args.scope.now c.all-definitions.ensures.all) c.loop-number.invariant
