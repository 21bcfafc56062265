use Rattle.std.proofs.Common.{take}
use Rattle.widl_idl.specs.FirstRefusal.{FirstBroken}
use Rattle.widl_idl.specs.Profile.{LeavesOut, profile_number, profile_rules}
use Rattle.widl_names.specs.Listings.{nodes_listed}
use Rattle.widl_merge.proofs.profile.first_unsupported.Given as goal

abbrev pub invariant-loop-node : goal.invariant-loop-node
invariant-loop-node l = FirstBroken profile_number (LeavesOut (nodes_listed (take l.node-index l.nodes))) profile_rules l.best
