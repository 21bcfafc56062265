use Rattle.std.proofs.Common.{subst}
use Rattle.widl_idl.specs.PlainTrees.{plain_definitions}
use Rattle.widl_merge.specs.Refusals.{IsRefusal}
use Rattle.widl_merge.proofs.merged_set.merge_scope.Goals as goal

pub merge_unbroken-requires-clause-unbroken : goal.merge_unbroken-requires-clause-unbroken
merge_unbroken-requires-clause-unbroken c = subst (IsRefusal (plain_definitions c.args.scope.now)) c.in-None.is c.in_ok-refusal.ensures
