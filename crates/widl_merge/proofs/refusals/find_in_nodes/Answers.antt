use Rattle.std.proofs.Common.{refl, subst, Some, None}
use Rattle.widl_idl.specs.FirstRefusal.{FirstBroken}
use Rattle.widl_idl.specs.Profile.{LeavesOut, profile_number, profile_rules}
use Rattle.widl_idl.specs.PlainTrees.{plain_definitions}
use Rattle.widl_merge.specs.Refusals.{IsProfileRefusal}
use Rattle.widl_merge.proofs.refusals.find_in_nodes.Goals as goal

pub returns-in-Some : goal.returns-in-Some
returns-in-Some c =
    let left = subst (λ nodes. FirstBroken profile_number (LeavesOut nodes) profile_rules c.first_unsupported.result) c.requires c.first_unsupported.ensures in
    record { profile = Some c.in-Some.refusal; profile_is = subst (IsProfileRefusal (plain_definitions c.args.scope.now)) c.in-Some.is left; after = refl }

pub returns-in_ok-first_unmerged-in-None : goal.returns-in_ok-first_unmerged-in-None
returns-in_ok-first_unmerged-in-None c =
    let left = subst (λ nodes. FirstBroken profile_number (LeavesOut nodes) profile_rules c.first_unsupported.result) c.requires c.first_unsupported.ensures in
    record { profile = None; profile_is = subst (IsProfileRefusal (plain_definitions c.args.scope.now)) c.in-None.is left; after = c.in_ok-first_unmerged-in-None.ensures }
