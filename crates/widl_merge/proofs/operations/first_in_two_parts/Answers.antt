use Rattle.std.proofs.Common.{arith}
use Rattle.widl_idl.specs.PlainTrees.{plain_definitions}
use Rattle.widl_names.proofs.PlainLists.{kind_there, listed_same}
use Rattle.widl_merge.proofs.TwoParts.{no_owners, owners_all, owners_step}
use Rattle.widl_merge.proofs.operations.first_in_two_parts.Goals as goal

pub loop-number-init : goal.loop-number-init
loop-number-init c = no_owners (plain_definitions c.args.scope.now)

pub loop-number-preserved : goal.loop-number-preserved
loop-number-preserved c = owners_step (plain_definitions c.args.scope.now) c.all-definitions.result.now c.loop-number.number c.index-definitions-number.result c.loop-number.best c.in_ok-found.found c.earlier_violation-best.result (omega arith) c.index-definitions-number.is c.earlier_violation-best.ensures c.in_ok-found.ensures c.loop-number.invariant

pub returns : goal.returns
returns c = owners_all (plain_definitions c.args.scope.now) c.all-definitions.result.now c.loop-number.number c.loop-number.best (omega arith) (listed_same c.all-definitions.result.now c.args.scope.now c.all-definitions.ensures.all) c.loop-number.invariant

pub first_of_owner-requires : goal.first_of_owner-requires
first_of_owner-requires c = kind_there c.all-definitions.result.now c.args.scope.now c.loop-number.number c.index-definitions-number.result (omega arith) c.index-definitions-number.is c.all-definitions.ensures.all
